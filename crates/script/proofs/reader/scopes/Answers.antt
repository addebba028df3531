-- `scopes` meets its contract, by the laws of `ReaderCauses`. Assumes nothing.
use Rattle.script.specs.ReaderCauses.{laws}
use Rattle.script.proofs.reader.scopes.Goals as goal

pub returns-then-not-bound : goal.returns-then-not-bound
returns-then-not-bound c = search laws

pub lists-requires : goal.lists-requires
lists-requires c = search laws
