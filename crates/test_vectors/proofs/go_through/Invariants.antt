-- No more records agree than were gone through.
use Rattle.std.proofs.Common.{◌≤◌}
use Rattle.test_vectors.proofs.go_through.Given as goal

abbrev pub invariant-loop-all : goal.invariant-loop-all
invariant-loop-all g l = l.agreed ≤ l.all
