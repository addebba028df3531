-- `refuse` meets its contract. Assumes nothing.
use Rattle.std.proofs.Common.{arith, rules}
use Rattle.atlite.specs.Base.{bytes}
use Rattle.transcript.specs.Output.{refusal-told}
use Rattle.transcript.proofs.refuse.Goals as goal

pub returns : goal.returns
unfolding bytes
returns g c =
    let w = refusal-told c.requires c.new-text.ensures.bytes c.new-text.ensures.empty (g.C.Refusal.number c.args.cause) _ (omega arith) (omega arith) c.put_bytes.ensures c.put_number.ensures c.put_bytes-2.ensures in
    let e = c.len.ensures in
    search (rules, w)
