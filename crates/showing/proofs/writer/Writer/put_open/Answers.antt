-- `Writer::put_open` puts its parts in a row. Assumes nothing.
use Rattle.showing.specs.Put.{then}
use Rattle.showing.specs.TextOfWords.{open_in}
use Rattle.showing.proofs.writer.Writer.put_open.Goals as goal

pub returns : goal.returns
unfolding open_in
returns c = then c.put_bytes.ensures c.put_word.ensures
