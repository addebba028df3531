-- `printer::names_hold` meets its contract, by the laws of `Names`. Assumes nothing.
use Rattle.printer.specs.Names.{laws}
use Rattle.printer.proofs.names_hold.Goals as goal

pub returns-then-k-gt-NAMES : goal.returns-then-k-gt-NAMES
returns-then-k-gt-NAMES c = search laws

pub returns : goal.returns
returns c = search laws
