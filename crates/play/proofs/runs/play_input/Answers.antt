-- `play_input` meets its contract. Assumes nothing.
use Rattle.play.specs.Schedules.{laws}
use Rattle.play.proofs.runs.play_input.Goals as goal

pub play_parts-requires : goal.play_parts-requires
play_parts-requires c = search laws

pub returns-in-None : goal.returns-in-None
returns-in-None c = search laws
