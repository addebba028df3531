-- `Writer::put_letter` puts the letter, or nothing. Assumes nothing.
use Rattle.showing.specs.PutLaws.{letter-some, letter-none}
use Rattle.showing.proofs.writer.Writer.put_letter.Goals as goal

pub returns-then-b-ne0 : goal.returns-then-b-ne0
returns-then-b-ne0 c = letter-some c.if-b-ne0.true c.put.ensures

pub returns-else-b-ne0 : goal.returns-else-b-ne0
returns-else-b-ne0 c = letter-none c.if-b-ne0.false
