-- `messages::aim` meets its contract. Assumes nothing.
use Rattle.lister.specs.SlotLaws.{aim-out, aim-ref, aim-none}
use Rattle.lister.proofs.messages.aim.Goals as goal

pub returns-then-t-at : goal.returns-then-t-at
returns-then-t-at c = aim-out _ _ c.if-t-at.true

pub returns-then-t-at-2 : goal.returns-then-t-at-2
returns-then-t-at-2 c = aim-ref _ c.if-t-at-2.true

pub returns : goal.returns
returns c = aim-none _ c.if-t-at-2.false
