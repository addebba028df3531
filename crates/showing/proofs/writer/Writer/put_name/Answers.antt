-- `Writer::put_name` puts a space and the name, or nothing. Assumes nothing.
use Rattle.showing.specs.PutLaws.{name-some, name-none}
use Rattle.showing.proofs.writer.Writer.put_name.Goals as goal

pub returns-then-c-ne-NO_NAME : goal.returns-then-c-ne-NO_NAME
returns-then-c-ne-NO_NAME c = name-some _ _ c.if-c-ne-NO_NAME.true c.put.ensures c.put_tagged.ensures

pub returns-else-c-ne-NO_NAME : goal.returns-else-c-ne-NO_NAME
returns-else-c-ne-NO_NAME c = name-none _ _ c.if-c-ne-NO_NAME.false
