-- What is left of the words falls, and at one place the calls go from literals to their lists and from there to terms. The loop over a
-- term keeps that what is left of it are so many terms further on.
use Rattle.std.proofs.Common.{◌+◌, ◌*◌, ◌-◌, ◌≤◌, max, length}
use Rattle.layout.specs.Numbers.{third_place}
use Rattle.checks.specs.Scope.{Kept}
use Rattle.term_words.specs.Words.{holds}
use Rattle.term_words.specs.Ends.{Left}
use Rattle.wellformed.proofs.term.Terms.+terms.Given as goal

abbrev pub decreases-fields_from : goal.decreases-fields_from
decreases-fields_from l = 16 * (4096 - l.at) + 1 + l.n

abbrev pub decreases-form : goal.decreases-form
decreases-form l = 16 * (4096 - l.at) + 12

abbrev pub decreases-future : goal.decreases-future
decreases-future l = 16 * (4096 - l.at) + 2

abbrev pub decreases-inside : goal.decreases-inside
decreases-inside l = 16 * (4096 - l.at) + 1

abbrev pub decreases-let_in : goal.decreases-let_in
decreases-let_in l = 16 * (4096 - l.at) + 2

abbrev pub decreases-literal : goal.decreases-literal
decreases-literal l = 16 * (4096 - l.at) + 11

abbrev pub decreases-methods_from : goal.decreases-methods_from
decreases-methods_from l = 16 * (4096 - l.at) + 1 + l.n

abbrev pub decreases-parts : goal.decreases-parts
decreases-parts l = 16 * (4096 - l.at) + 10

abbrev pub decreases-term : goal.decreases-term
decreases-term l = 16 * (4096 - l.at)

abbrev pub invariant-term-loop-left : goal.invariant-term-loop-left
invariant-term-loop-left l = record {
  terms : Left l.self.owner.words (holds l.e.refs l.self.owner.kinds.now l.self.owner.actor) l.initial.scope l.e.level l.self.words.now l.at l.left l.i;
  kept : Kept l.initial.scope l.scope;
  behind : l.at ≤ l.i;
  within : l.i ≤ max l.at (length l.self.words.now);
  few : l.left ≤ third_place * l.i + 1;
}

abbrev pub decreases-term-loop-left : goal.decreases-term-loop-left
decreases-term-loop-left l = length l.self.words.now - l.i
