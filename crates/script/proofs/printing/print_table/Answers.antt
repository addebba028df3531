-- `print_table` meets its contract: no text is made of words that are no table. Assumes nothing.
use Rattle.script.specs.Reprinting.{laws}
use Rattle.script.proofs.printing.print_table.Goals as goal

pub returns-in-None : goal.returns-in-None
returns-in-None c = search laws
