-- `lists` meets its contract, by the laws of `ReaderCauses`. Assumes nothing.
use Rattle.script.specs.ReaderCauses.{laws}
use Rattle.script.proofs.reader.lists.Goals as goal

pub returns-then-not-single : goal.returns-then-not-single
returns-then-not-single c = search laws

pub limits-requires : goal.limits-requires
limits-requires c = search laws
