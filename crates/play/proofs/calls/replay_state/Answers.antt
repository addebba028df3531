-- `replay_state` meets its contract. Assumes nothing.
use Rattle.play.specs.Replays.{laws}
use Rattle.play.proofs.calls.replay_state.Goals as goal

pub returns : goal.returns
returns c = search laws
