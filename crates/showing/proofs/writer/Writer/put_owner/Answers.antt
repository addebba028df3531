-- `Writer::put_owner` puts its parts in a row. Assumes nothing.
use Rattle.atlite.specs.Base.{bytes}
use Rattle.showing.specs.Put.{then}
use Rattle.showing.specs.TextOfWords.{owner_in}
use Rattle.showing.proofs.writer.Writer.put_owner.Goals as goal

pub returns : goal.returns
unfolding owner_in bytes
returns c = then c.put_bytes.ensures c.put_number.ensures
