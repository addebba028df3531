-- `Writer::put_keyword` puts the word of the kind. Assumes nothing.
use Rattle.showing.proofs.writer.Writer.put_keyword.Goals as goal

pub returns : goal.returns
returns c = rw c.keyword.ensures at c.put_bytes.ensures
