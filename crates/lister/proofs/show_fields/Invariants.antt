-- `show_fields` shows the fields one behind another: those left are what is left of all. Assumes nothing.
use Rattle.std.specs.Prelude.{◌-◌, drop}
use Rattle.showing.specs.Put.{Left}
use Rattle.lister.specs.TextOfState.{fields_in}
use Rattle.lister.proofs.show_fields.Given as goal

abbrev pub invariant-loop : goal.invariant-loop
invariant-loop l = Left l.initial.text (fields_in l.t l.n l.x (drop l.at l.t)) l.text (fields_in l.t (l.n - l.counter) l.names (drop l.next l.t))
