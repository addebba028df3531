-- `Writer::put_places` puts its parts in a row. Assumes nothing.
use Rattle.showing.specs.Put.{then}
use Rattle.showing.specs.TextOfWords.{places_in}
use Rattle.showing.proofs.writer.Writer.put_places.Goals as goal

pub returns : goal.returns
unfolding places_in
returns c = then c.put_open.ensures (then c.put_name.ensures (then c.put_name-2.ensures c.put.ensures))
