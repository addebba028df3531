-- `show_actor` puts its parts in a row. Assumes nothing.
use Rattle.lister.specs.ActorLaws.{actor-whole}
use Rattle.lister.proofs.show_actor.Goals as goal

pub returns : goal.returns
returns c = actor-whole _ _ _ c.show_line.ensures c.show_slots-next.ensures c.show_slots.ensures c.show_inbox.ensures
