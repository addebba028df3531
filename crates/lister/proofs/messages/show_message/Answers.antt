-- `messages::show_message` puts its parts in a row. Assumes nothing.
use Rattle.atlite.specs.Base.{bytes}
use Rattle.lister.specs.SlotLaws.{message-whole}
use Rattle.lister.proofs.messages.show_message.Goals as goal

pub returns : goal.returns
unfolding bytes
returns c = message-whole _ _ c.put_bytes.ensures c.show_operands.ensures c.put.ensures
