-- The slots that are left decide where the methods of all end.
use Rattle.std.proofs.Common.{ℕ, ◌≤◌, Bool, Option, take, drop, true, false}
use Rattle.layout.specs.Numbers.{bodies_size, bodies_at}
use Rattle.actor.specs.Tests.{slot_end}
use Rattle.actor.specs.Bodies.{methods_reach}
use Rattle.actor.specs.SlotLaws.{Left}
use Rattle.actor.proofs.part.Part.slots.Given as goal

abbrev pub invariant-loop-n : goal.invariant-loop-n
invariant-loop-n l =
    let K = l.self.owner.kinds.now in
    let a = l.self.owner.actor in
    let W = l.self.owner.words in
    let w = l.self.words.now in
    let reach : Bool → ℕ → ℕ → Option ℕ = λ refs. methods_reach refs K a W (take bodies_size (drop bodies_at w)) in
    record {
      left : Left (slot_end K a W w (reach true) (reach false) l.series) l.k l.at l.b l.n l.e;
      short : l.e ≤ bodies_size;
    }
