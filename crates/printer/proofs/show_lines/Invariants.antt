-- `printer::show_lines` meets its contract: what is put, with the lines left, is all lines. Assumes nothing.
use Rattle.std.specs.Prelude.{◌-◌}
use Rattle.printer.specs.LineContract.{Lined}
use Rattle.printer.proofs.show_lines.Given as goal

abbrev pub invariant-loop : goal.invariant-loop
invariant-loop l = Lined l.t l.n l.initial.text (l.n - l.counter) l.text l.at
