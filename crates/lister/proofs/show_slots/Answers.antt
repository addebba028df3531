-- `show_slots` shows the slots one behind another. Assumes nothing.
use Rattle.std.proofs.Common.{arith, add-zero, ◌≡◌, ◌+◌, ◌-◌, ◌*◌}
use Rattle.lister.specs.SlotLaws.{slots-all, slots-next, slots-last}
use Rattle.lister.proofs.show_slots.Goals as goal

pub loop-i-init : goal.loop-i-init
loop-i-init c = let e : c.args.n - 0 ≡ c.args.n = omega arith in rw (e, add-zero) (slots-all _)

pub loop-i-preserved : goal.loop-i-preserved
loop-i-preserved c =
    let e : c.args.n - (c.loop-i.i + 1) ≡ c.args.n - c.loop-i.i - 1 = omega arith in
    let d : c.args.at + 8 * (c.loop-i.i + 1) ≡ c.args.at + 8 * c.loop-i.i + 8 = omega arith in
    rw (e, d) (slots-next _ _ _ _ _ _ _ c.loop-i.invariant (λ z. omega arith) c.show_slot-next.ensures)

pub returns : goal.returns
returns c = slots-last _ _ _ _ _ _ _ c.loop-i.invariant (omega arith)
