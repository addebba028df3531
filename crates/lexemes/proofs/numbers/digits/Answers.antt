-- One more digit. Assumes nothing.
use Rattle.lexemes.specs.NumberLaws.{laws}
use Rattle.lexemes.proofs.numbers.digits.Goals as goal

pub loop-b-preserved : goal.loop-b-preserved
loop-b-preserved c = search laws
