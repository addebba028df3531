-- What is left of the words falls.
use Rattle.std.proofs.Common.{◌-◌, length}
use Rattle.checks.proofs.single.+walk.Given as goal

abbrev pub decreases-walk : goal.decreases-walk
decreases-walk l = length l.s.now - l.at
