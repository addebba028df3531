-- `play_state` meets its contract. Assumes nothing.
use Rattle.play.specs.Schedules.{laws}
use Rattle.play.proofs.runs.play_state.Goals as goal

pub returns : goal.returns
returns c = search laws
