-- `messages::show_waiting` shows the messages one behind another. Assumes nothing.
use Rattle.std.proofs.Common.{arith, sym, ◌∙◌, ◌≡◌, ◌+◌, ◌-◌}
use Rattle.lister.specs.SlotLaws.{waiting-next, waiting-last, waiting-other}
use Rattle.lister.proofs.messages.show_waiting.Goals as goal

pub returns-then-not-waits : goal.returns-then-not-waits
returns-then-not-waits c = waiting-other _ _ _ _ c.loop.invariant (sym c.waits.ensures.is ∙ c.if-not-waits.true)

pub loop-preserved : goal.loop-preserved
loop-preserved c =
    let e : 16 - (c.loop.counter + 1) ≡ 16 - c.loop.counter - 1 = omega arith in
    rw e (waiting-next _ _ _ _ c.loop.invariant (λ z. omega arith) (sym c.waits.ensures.is ∙ c.if-not-waits.false) c.put.ensures c.show_message.ensures)

pub returns : goal.returns
returns c = waiting-last _ _ _ _ c.loop.invariant (omega arith)
