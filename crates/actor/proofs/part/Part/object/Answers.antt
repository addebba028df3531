-- The methods end, and the slot is looked at.
use Rattle.actor.specs.SlotLaws.{object_laws}
use Rattle.actor.proofs.part.Part.object.Goals as goal

pub returns-clause-value : goal.returns-clause-value
returns-clause-value c = search (object_laws, c.in_ok-e.ensures.value)
