-- `replay_parts` meets its contract. Assumes nothing.
use Rattle.play.specs.Replays.{laws}
use Rattle.play.proofs.calls.replay_parts.Goals as goal

pub slice_bounds-entries-end : goal.slice_bounds-entries-end
slice_bounds-entries-end c = search laws

pub slice_bounds-replay_script-end-in-Some : goal.slice_bounds-replay_script-end-in-Some
slice_bounds-replay_script-end-in-Some c = search laws

pub returns-in-Some : goal.returns-in-Some
returns-in-Some c = search laws

pub returns-in-None : goal.returns-in-None
returns-in-None c = search laws
