-- `show`, `show_form` and `show_operands` meet their contracts: the fuel falls, and where it stays the function. What the operands still
-- to be shown leave is what all of them leave. Assumes nothing.
use Rattle.std.specs.Prelude.{◌+◌, ◌*◌, ◌-◌, drop}
use Rattle.showing.specs.ShowLaws.{Remains}
use Rattle.showing.specs.TextOfWords.{operands_in, shown}
use Rattle.showing.proofs.writer.Writer.+terms.Given as goal

abbrev pub decreases-show : goal.decreases-show
decreases-show l = 3 * l.fuel

abbrev pub decreases-show_form : goal.decreases-show_form
decreases-show_form l = 3 * l.fuel + 2

abbrev pub decreases-show_operands : goal.decreases-show_operands
decreases-show_operands l = 3 * l.fuel + 1

abbrev pub invariant-show_operands-loop : goal.invariant-show_operands-loop
invariant-show_operands-loop l =
    Remains l.t (operands_in l.t (shown l.t l.fuel) l.x l.n (drop l.at l.t)) l.initial.self
    (operands_in l.t (shown l.t l.fuel) l.name (l.n - l.counter) (drop l.next l.t)) l.self
