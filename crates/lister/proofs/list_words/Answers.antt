-- `list_words` lists all actors. Assumes nothing.
use lib.Seq.{length-take-le}
use Rattle.std.proofs.Common.{arith, rules}
use Rattle.showing.specs.Put.{from-start}
use Rattle.lister.specs.ListContract.{lists-whole}
use Rattle.lister.proofs.list_words.Goals as goal

pub list_all-requires : goal.list_all-requires
list_all-requires c = rw (length-take-le 16384 c.args.state.now c.requires) (omega arith)

pub returns : goal.returns
returns c =
    let l = lists-whole _ _ _ _ (from-start c.new-text.ensures.bytes c.new-text.ensures.empty c.list_all.ensures) in
    let e = c.len.ensures in
    search (rules, l)
