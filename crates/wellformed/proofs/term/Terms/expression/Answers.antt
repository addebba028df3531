use Rattle.wellformed.specs.LiteralLaws.{laws}
use Rattle.wellformed.proofs.term.Terms.expression.Goals as goal

pub returns-clause-value : goal.returns-clause-value
returns-clause-value c = search laws
