-- `printer::show_lines` meets its contract, by the laws of `ShowLaws`. Assumes nothing.
use Rattle.std.proofs.Common.{arith, ◌≡◌, ◌+◌, ◌-◌}
use Rattle.printer.specs.ShowLaws.{lines_more, lines_end}
use Rattle.printer.proofs.show_lines.Goals as goal

pub loop-preserved : goal.loop-preserved
loop-preserved c =
    let e : c.args.n - (c.loop.counter + 1) ≡ c.args.n - c.loop.counter - 1 = omega arith in
    rw e (lines_more _ _ _ _ (omega arith) c.loop.invariant c.show-at.ensures c.put.ensures)

pub returns : goal.returns
returns c = lines_end _ _ _ _ (omega arith) c.loop.invariant
