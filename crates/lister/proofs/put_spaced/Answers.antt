-- `put_spaced` puts its parts in a row. Assumes nothing.
use Rattle.showing.specs.Put.{then}
use Rattle.lister.specs.TextOfState.{spaced_in}
use Rattle.lister.proofs.put_spaced.Goals as goal

pub returns : goal.returns
unfolding spaced_in
returns c = then c.put.ensures c.put_number.ensures
