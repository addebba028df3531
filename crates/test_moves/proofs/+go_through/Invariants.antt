-- `go_through` ends: each turn has fewer bytes left.
use Rattle.std.proofs.Common.{length}
use Rattle.test_moves.proofs.+go_through.Given as goal

abbrev pub decreases-go_through : goal.decreases-go_through
decreases-go_through g l = length l.records.now
