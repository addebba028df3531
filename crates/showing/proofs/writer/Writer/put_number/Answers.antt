-- `Writer::put_number` puts the digits that the library gives. Assumes nothing.
use Rattle.showing.specs.PutLaws.{number-put}
use Rattle.showing.proofs.writer.Writer.put_number.Goals as goal

pub returns : goal.returns
returns c = number-put c.requires (cc) c.put_bytes.ensures
