-- An operator without a payload.
use Rattle.wellformed.specs.FormLaws.{operand_laws}
use Rattle.wellformed.proofs.term.Terms.operands.Goals as goal

pub returns-in-1 : goal.returns-in-1
returns-in-1 c = search operand_laws
