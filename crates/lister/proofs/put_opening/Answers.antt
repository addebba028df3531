-- `put_opening` puts its parts in a row. Assumes nothing.
use Rattle.showing.specs.Put.{then}
use Rattle.lister.specs.TextOfState.{opening_in, entry_in}
use Rattle.lister.proofs.put_opening.Goals as goal

pub returns : goal.returns
unfolding opening_in entry_in
returns c = then (then c.put_kind.ensures (rw c.from.ensures at c.put_number.ensures)) (then c.put_series.ensures (then c.put_number-2.ensures c.put_state.ensures))
