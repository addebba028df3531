-- `replay_input` meets its contract. Assumes nothing.
use Rattle.play.specs.Replays.{laws}
use Rattle.play.proofs.calls.replay_input.Goals as goal

pub replay_parts-requires : goal.replay_parts-requires
replay_parts-requires c = search laws

pub returns-in-None : goal.returns-in-None
returns-in-None c = search laws
