-- `play_script` meets its contract. Assumes nothing.
use Rattle.play.specs.Schedules.{laws}
use Rattle.play.proofs.runs.play_script.Goals as goal

pub returns-in-Ok : goal.returns-in-Ok
returns-in-Ok c = search laws

pub returns-in-Err : goal.returns-in-Err
returns-in-Err c = search laws
