-- `show_fields` shows the fields one behind another. Assumes nothing.
use Rattle.std.proofs.Common.{arith, ◌≡◌, ◌+◌, ◌-◌}
use Rattle.lister.specs.SlotLaws.{fields-next, fields-end}
use Rattle.lister.proofs.show_fields.Goals as goal

pub loop-preserved : goal.loop-preserved
loop-preserved c =
    let e : c.args.n - (c.loop.counter + 1) ≡ c.args.n - c.loop.counter - 1 = omega arith in
    rw e (fields-next _ _ _ _ c.loop.invariant (λ z. omega arith) c.put.ensures c.show_form-next.ensures)

pub returns : goal.returns
returns c = fields-end _ _ _ _ (omega arith) c.loop.invariant
