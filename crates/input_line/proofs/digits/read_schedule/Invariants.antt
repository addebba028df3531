-- The entries so far stand before the bytes that are left. Assumes nothing.
use Rattle.input_line.specs.Schedules.{Scheduling}
use Rattle.input_line.proofs.digits.read_schedule.Given as goal

abbrev pub invariant-loop-i : goal.invariant-loop-i
invariant-loop-i l = Scheduling l.line l.entries l.i
