-- `messages::show_waiting` shows the messages one behind another: those left are what is left of all. Assumes nothing.
use Rattle.std.specs.Prelude.{◌-◌, drop}
use Rattle.showing.specs.ShowLaws.{Remains}
use Rattle.lister.specs.TextOfState.{waiting_in}
use Rattle.lister.proofs.messages.show_waiting.Given as goal

abbrev pub invariant-loop : goal.invariant-loop
invariant-loop l = Remains l.t (waiting_in l.t 16 l.n (drop l.at l.t)) l.initial.text (waiting_in l.t (16 - l.counter) l.n (drop l.next l.t)) l.text
