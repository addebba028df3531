-- `Writer::put_ref` puts its parts in a row. Assumes nothing.
use Rattle.showing.specs.Put.{then}
use Rattle.showing.specs.TextOfWords.{ref_in}
use Rattle.showing.proofs.writer.Writer.put_ref.Goals as goal

pub returns : goal.returns
unfolding ref_in
returns c = then c.put_owner.ensures (then c.put_series.ensures (then c.put_number.ensures c.put.ensures))
