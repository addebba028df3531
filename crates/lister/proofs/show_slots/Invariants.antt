-- `show_slots` shows the slots one behind another: those left are what is left of all. Assumes nothing.
use Rattle.std.specs.Prelude.{◌+◌, ◌-◌, ◌*◌, drop}
use Rattle.lister.specs.SlotLaws.{SlotsLeft}
use Rattle.lister.specs.TextOfState.{slots_in}
use Rattle.lister.proofs.show_slots.Given as goal

abbrev pub invariant-loop-i : goal.invariant-loop-i
invariant-loop-i l =
    SlotsLeft l.t (slots_in l.t l.a l.s l.n (drop l.at l.t) (drop l.fn.spot.body l.t) (drop l.fn.spot.wait l.t)) l.initial.text
    (slots_in l.t l.a l.s (l.n - l.i) (drop (l.at + 8 * l.i) l.t) (drop l.next.body l.t) (drop l.next.wait l.t)) l.text
