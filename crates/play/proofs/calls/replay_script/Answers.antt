-- `replay_script` meets its contract. Assumes nothing.
use Rattle.play.specs.Replays.{laws}
use Rattle.play.proofs.calls.replay_script.Goals as goal

pub replay_state-requires : goal.replay_state-requires
replay_state-requires c = search laws

pub returns-in-Ok : goal.returns-in-Ok
returns-in-Ok c = search laws

pub returns-in-Err : goal.returns-in-Err
returns-in-Err c = search laws
