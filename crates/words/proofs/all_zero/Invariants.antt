-- The bits gathered tell of the words passed whether they are zeros.
use Rattle.std.proofs.Common.{eqb, length, take}
use Rattle.layout.specs.Pack.{zeros}
use Rattle.words.specs.Runs.{Same}
use Rattle.words.proofs.all_zero.Given as goal

abbrev pub invariant-loop-x : goal.invariant-loop-x
invariant-loop-x l = Same (take l.x-index l.w) (take l.x-index (zeros (length l.w))) (eqb l.bits 0)
