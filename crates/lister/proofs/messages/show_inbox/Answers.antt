-- `messages::show_inbox` shows the messages one behind another. Assumes nothing.
use Rattle.std.proofs.Common.{arith, ◌≡◌, ◌+◌, ◌-◌, ◌*◌}
use Rattle.lister.specs.SlotLaws.{inbox-next, inbox-end}
use Rattle.lister.proofs.messages.show_inbox.Goals as goal

pub loop-i-preserved : goal.loop-i-preserved
loop-i-preserved c =
    let e : c.args.n - (c.loop-i.i + 1) ≡ c.args.n - c.loop-i.i - 1 = omega arith in
    let d : c.args.at + 6 * (c.loop-i.i + 1) ≡ c.args.at + 6 * c.loop-i.i + 6 = omega arith in
    rw (e, d) (inbox-next _ _ _ c.loop-i.invariant (λ z. omega arith) c.show_message.ensures c.put.ensures)

pub returns : goal.returns
returns c = inbox-end _ _ _ (omega arith) c.loop-i.invariant
