-- The messages that are left, from the future of the last one on, decide of all.
use Rattle.actor.specs.MessageLaws.{Waiting}
use Rattle.actor.proofs.part.Part.waiters.Given as goal

abbrev pub invariant-loop-i : goal.invariant-loop-i
invariant-loop-i l = Waiting l.self.owner.kinds.now l.self.owner.actor l.self.owner.words l.self.words.now l.m l.n l.at l.low l.i
