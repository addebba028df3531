-- `messages::show_inbox` shows the messages one behind another: those left are what is left of all. Assumes nothing.
use Rattle.std.specs.Prelude.{◌+◌, ◌-◌, ◌*◌, drop}
use Rattle.showing.specs.Put.{Left}
use Rattle.lister.specs.TextOfState.{inbox_in}
use Rattle.lister.proofs.messages.show_inbox.Given as goal

abbrev pub invariant-loop-i : goal.invariant-loop-i
invariant-loop-i l = Left l.initial.text (inbox_in l.t l.n (drop l.at l.t)) l.text (inbox_in l.t (l.n - l.i) (drop (l.at + 6 * l.i) l.t))
