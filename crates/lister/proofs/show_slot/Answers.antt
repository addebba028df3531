-- `show_slot` puts its parts in a row. Assumes nothing.
use Rattle.lister.specs.SlotLaws.{slot_whole}
use Rattle.lister.proofs.show_slot.Goals as goal

pub returns : goal.returns
returns c = slot_whole _ _ _ _ _ _ c.put_opening.ensures c.show_parts.ensures
