-- Futures and resolvers end where they begin.
use Rattle.actor.specs.SlotLaws.{made_laws}
use Rattle.actor.proofs.part.Part.made.Goals as goal

pub returns-in-3-clause-value : goal.returns-in-3-clause-value
returns-in-3-clause-value c = search made_laws

pub returns-in-4-clause-value : goal.returns-in-4-clause-value
returns-in-4-clause-value c = search made_laws

pub returns-in-5-clause-value : goal.returns-in-5-clause-value
returns-in-5-clause-value c = search made_laws
