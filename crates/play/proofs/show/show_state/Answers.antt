-- `show_state` meets its contract. Assumes nothing.
use Rattle.play.specs.Listings.{laws}
use Rattle.play.proofs.show.show_state.Goals as goal

pub put_head-requires : goal.put_head-requires
put_head-requires c = search laws

pub returns-in-Ok : goal.returns-in-Ok
returns-in-Ok c = search laws

pub returns-in-Err : goal.returns-in-Err
returns-in-Err c = search laws
