-- `bad_token` meets its contract. Assumes nothing.
use Rattle.std.proofs.Common.{rules}
use Rattle.atlite.specs.Base.{bytes}
use Rattle.transcript.specs.Output.{token-written}
use Rattle.transcript.proofs.bad_token.Goals as goal

pub returns : goal.returns
unfolding bytes
returns c =
    let w = token-written c.requires c.new-text.ensures.bytes c.new-text.ensures.empty c.put_bytes.ensures in
    let e = c.len.ensures in
    search (rules, w)
