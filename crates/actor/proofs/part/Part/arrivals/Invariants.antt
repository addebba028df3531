-- The messages that are left decide of all.
use Rattle.actor.specs.MessageLaws.{Arriving}
use Rattle.actor.proofs.part.Part.arrivals.Given as goal

abbrev pub invariant-loop-i : goal.invariant-loop-i
invariant-loop-i l = Arriving l.self.owner.kinds.now l.self.owner.actor l.self.owner.words l.self.words.now l.n l.at l.i
