-- An expression that ends elsewhere than the head says.
use Rattle.actor.specs.PartLaws.{expr_laws}
use Rattle.actor.proofs.part.Part.expr.Goals as goal

pub returns-in_default : goal.returns-in_default
returns-in_default c = search (expr_laws, c.in-Some.ensures.value)
