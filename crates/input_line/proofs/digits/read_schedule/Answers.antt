-- `read_schedule` meets its contract, by the laws of `Schedules`. Assumes nothing.
use Rattle.input_line.specs.Schedules.{reading, schedule-stops, schedule-goes}
use Rattle.input_line.proofs.digits.read_schedule.Goals as goal

pub loop-i-init : goal.loop-i-init
loop-i-init c = search reading

pub returns-in_err-entries : goal.returns-in_err-entries
returns-in_err-entries c = rw c.from_residual.ensures (schedule-stops _ _ _ c.loop-i.invariant c.loop-i-test.true c.in_err-entries.ensures)

pub loop-i-preserved : goal.loop-i-preserved
loop-i-preserved c = schedule-goes _ _ _ c.loop-i.invariant c.loop-i-test.true _ c.in_ok-entries.ensures

pub returns : goal.returns
returns c = search reading
