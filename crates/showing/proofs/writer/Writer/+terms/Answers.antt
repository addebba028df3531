-- `show`, `show_form` and `show_operands` meet their contracts, by the laws of `ShowLaws`. Assumes nothing.
use Rattle.std.proofs.Common.{arith, ◌≡◌, ◌-◌, ◌+◌}
use Rattle.showing.specs.ShowLaws.{node-deep, node_end, node-leaf, node-form, form-whole, operands-next, operands-end}
use Rattle.showing.proofs.writer.Writer.+terms.Goals.{show-then-fuel-eq0-via-then-fuel-eq0, show-then-fuel-eq0-via-else-fuel-eq0+then-t-at}
use Rattle.showing.proofs.writer.Writer.+terms.Goals as goal

pub show-returns-then-fuel-eq0 : goal.show-returns-then-fuel-eq0
show-returns-then-fuel-eq0 t c =
    elim c.then-fuel-eq0.branch [
      | show-then-fuel-eq0-via-then-fuel-eq0 w ↦ node-deep _ _ _ w.if-fuel-eq0.true
      | show-then-fuel-eq0-via-else-fuel-eq0+then-t-at w ↦ node_end _ _ _ w.if-t-at.true
    ]

pub show-returns-then-h-lt7 : goal.show-returns-then-h-lt7
show-returns-then-h-lt7 t c = node-leaf _ _ _ c.if-fuel-eq0.false c.if-t-at.false c.if-h-lt7.true c.put_leaf.ensures

pub show-returns : goal.show-returns
show-returns t c = node-form _ _ _ c.if-fuel-eq0.false c.if-t-at.false c.if-h-lt7.false c.show_form.ensures

pub show_form-returns : goal.show_form-returns
show_form-returns t c = form-whole _ _ _ _ c.put_head.ensures (rw (c.name_after-x.ensures, c.operand_count-n.ensures) at c.show_operands-end.ensures) c.put.ensures

pub show_operands-loop-preserved : goal.show_operands-loop-preserved
show_operands-loop-preserved t c =
    let e : c.args.n - (c.loop.counter + 1) ≡ c.args.n - c.loop.counter - 1 = omega arith in
    rw e (operands-next _ _ _ _ _ c.loop.invariant (λ z. omega arith) c.put.ensures c.show-next.ensures c.put_name.ensures)

pub show_operands-returns : goal.show_operands-returns
show_operands-returns t c = operands-end _ _ _ _ _ c.loop.invariant (omega arith)
