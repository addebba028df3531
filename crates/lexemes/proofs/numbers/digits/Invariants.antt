-- The digits before an index make n. Assumes nothing.
use Rattle.lexemes.specs.Atoms.{Counted}
use Rattle.lexemes.proofs.numbers.digits.Given as goal

abbrev pub invariant-loop-b : goal.invariant-loop-b
invariant-loop-b l = Counted l.word l.b-index l.n
