-- `list_all` shows the actors one behind another: those left are what is left of all. Assumes nothing.
use Rattle.std.specs.Prelude.{◌+◌, ◌-◌, ◌*◌, drop}
use Rattle.showing.specs.Put.{Left}
use Rattle.lister.specs.TextOfState.{actors_in}
use Rattle.lister.proofs.list_all.Given as goal

abbrev pub invariant-loop-a : goal.invariant-loop-a
invariant-loop-a l = Left l.initial.text (actors_in l.t 0 l.n (drop 256 l.t)) l.text (actors_in l.t l.a (l.n - l.a) (drop (256 + 3200 * l.a) l.t))
