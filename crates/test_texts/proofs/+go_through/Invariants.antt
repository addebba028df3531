-- `go_through` ends: each turn has fewer bytes left.
use Rattle.std.proofs.Common.{length}
use Rattle.test_texts.proofs.+go_through.Given as goal

abbrev pub decreases-go_through : goal.decreases-go_through
decreases-go_through l = length l.records.now
