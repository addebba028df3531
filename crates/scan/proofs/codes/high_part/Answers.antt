-- A word has at most twelve bytes. Assumes nothing.
use Rattle.scan.specs.WordNumberLaws.{laws}
use Rattle.scan.proofs.codes.high_part.Goals as goal

pub number-requires : goal.number-requires
number-requires c = search laws

pub overflow_cast-result : goal.overflow_cast-result
overflow_cast-result c = search laws
