-- The text is no script where a line is none, or where the last is no expression. Assumes nothing.
use Rattle.parse.specs.TextLaws.{laws}
use Rattle.parse.proofs.lines.lines.Goals as goal

pub returns-in_err-l : goal.returns-in_err-l
returns-in_err-l c = search (laws, c.in_err-l.ensures)

pub returns : goal.returns
returns c = search laws
