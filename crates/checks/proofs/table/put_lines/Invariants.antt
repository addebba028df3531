-- What is left to write, written, gives what was asked.
use Rattle.checks.specs.TableWriteLaws.{Lining}
use Rattle.checks.proofs.table.put_lines.Given as goal

abbrev pub invariant-loop-i : goal.invariant-loop-i
invariant-loop-i l = Lining l.initial.table l.s l.words l.table l.i
