-- One law for each way to return.
use Rattle.actor.specs.PartLaws.{heap_laws}
use Rattle.actor.proofs.part.Part.heap.Goals as goal

pub returns-then-not-zeros : goal.returns-then-not-zeros
returns-then-not-zeros c = search (heap_laws, c.in-Some.ensures.value)

pub returns-in-Some-slots : goal.returns-in-Some-slots
returns-in-Some-slots c = search (heap_laws, c.in-Some.ensures.value, c.in-Some-slots.ensures.value)
