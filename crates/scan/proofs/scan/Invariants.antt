-- The words before `at` are found. Assumes nothing.
use Rattle.std.proofs.Common.{length, ◌-◌}
use Rattle.scan.specs.WordNumbers.{Scanning}
use Rattle.scan.proofs.scan.Given as goal

abbrev pub invariant-loop-at : goal.invariant-loop-at
invariant-loop-at l = Scanning l.text l.at l.words.low l.words.high l.words.count l.words.apply

abbrev pub decreases-loop-at : goal.decreases-loop-at
decreases-loop-at l = length l.text - l.at
