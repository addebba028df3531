-- The parts that are left decide of all.
use Rattle.state.specs.TestLaws.{Left}
use Rattle.state.proofs.are_parts.Given as goal

abbrev pub invariant-loop-a : goal.invariant-loop-a
invariant-loop-a l = Left l.kinds l.k l.n l.w l.a
