-- The lines before `at` are read. Assumes nothing.
use Rattle.std.proofs.Common.{length, ◌-◌}
use Rattle.parse.specs.TextLaws.{Lining}
use Rattle.parse.proofs.lines.lines.Given as goal

abbrev pub invariant-loop-at : goal.invariant-loop-at
invariant-loop-at l = Lining l.s.text.now l.at l.o l.n l.last l.out

abbrev pub decreases-loop-at : goal.decreases-loop-at
decreases-loop-at l = length l.s.text.now - l.at
