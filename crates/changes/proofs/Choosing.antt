-- Request P2, choosing: what `if` and `same` come to, and that no other move asks for their rules. Assumes nothing.
--
-- What a script writes as (if c d e) is `choose` among the operators. A rule is stated by any rules of the two (`specs/Choosing`), so that a rule
-- without them is an instance: where the redex is neither, its move is the same whatever they are.
use Rattle.std.specs.Prelude.{ℕ, ◌≡◌, refl, Bool, true, false, List, if◌then◌else◌}
use Rattle.std.proofs.Common.{ap, ◌∙◌, ne_eqb}
use Rattle.std.proofs.Math.Option.{some}
use Rattle.std.proofs.Math.ListN.{get_elem?}
use Rattle.atlite.specs.Base.{require, bytes}
use Rattle.atlite_laws.specs.Laws.{same-value, value_same}
use Rattle.atlite.specs.Lexicon.{is_word}
use Rattle.atlite.specs.Replay.{All}
use Rattle.atlite.specs.Term.{Value, null, num, ref, same, choose, Term, val, op, cons, two, demanded, are_values, value_of, values_of, is_value}
use Rattle.atlite.specs.State.{Actor, State, same_value}
use Rattle.atlite.specs.Redex.{redex}
use Rattle.atlite.specs.Outcome.{inner, becomes}
use Rattle.atlite.specs.Rules.{number, same_rule, says_no, choice, choose_rule, pair_of, one_of, operate, rule}
use Rattle.atlite.specs.Limits.{Bounds}
use Rattle.atlite.specs.Move.{move_within}
use Rattle.changes.specs.MoveBy.{move_by, redex-agrees, present, each-rule, rule-present}
use Rattle.changes.specs.Choosing.{TwoRules, operate_by, rule_by, chooses}

-- ---- if
-- only the first part is on the way to the redex
pub if-waits : (c d e : Term) → is_value c ≡ false → redex (op choose (cons c (two d e))) ≡ redex c
unfolding redex demanded are_values
if-waits c d e h = rw h

-- once it is a value, the form itself is the redex, whatever the other two are
pub if-acts : (v : Value) (d e : Term) → redex (op choose (cons (val v) (two d e))) ≡ op choose (cons (val v) (two d e))
unfolding redex demanded are_values is_value
if-acts v d e = refl

-- null and 0 say no, and nothing else does
pub null-no : says_no null ≡ true
unfolding says_no
null-no = refl

pub zero-no : says_no (num 0) ≡ true
unfolding says_no
zero-no = refl

pub other-yes : (v : Value) → (v ≡ null → ⊥) → (v ≡ num 0 → ⊥) → says_no v ≡ false
unfolding says_no
other-yes null h k = absurd (h refl)
other-yes (num n) h k = ne_eqb n 0 (λ e. k (ap num e))
other-yes (ref b s n) h k = refl

module _ (s : List Actor) (a : ℕ) (A : Actor) (v : Value) (d e : Term) where
  pub if_no : says_no v ≡ true → rule s a A (op choose (cons (val v) (two d e))) ≡ becomes inner A e
  unfolding rule operate choose_rule choice value_of
  if_no h = rw h

  pub if_yes : says_no v ≡ false → rule s a A (op choose (cons (val v) (two d e))) ≡ becomes inner A d
  unfolding rule operate choose_rule choice value_of
  if_yes h = rw h

-- ---- same
-- it is 1 for a value and itself
pub same-equal : (s : List Actor) (a : ℕ) (A : Actor) (v : Value) → rule s a A (op same (two (val v) (val v))) ≡ becomes inner A (val (num 1))
unfolding rule operate pair_of one_of values_of value_of same_rule number require
same-equal s a A v = rw (same-value v)

-- and 0 for any two others, of whatever kinds
pub same-other : (s : List Actor) (a : ℕ) (A : Actor) (v w : Value) → (v ≡ w → ⊥) → rule s a A (op same (two (val v) (val w))) ≡ becomes inner A (val (num 0))
unfolding rule operate pair_of one_of values_of value_of same_rule number require
same-other s a A v w h = go (same_value v w) refl
  where
    go : (b : Bool) → same_value v w ≡ b → number A (if same_value v w then 1 else 0) ≡ becomes inner A (val (num 0))
    go true e = absurd (h (value_same v w e))
    go false e = rw e

-- ---- the words are nobody's names
pub if-reserved : is_word (bytes "if") ≡ false
unfolding All
if-reserved = refl

pub same-reserved : is_word (bytes "same") ≡ false
unfolding All
same-reserved = refl

-- ---- a rule by rules of the two operators
rule-before : (X : TwoRules) (s : List Actor) (a : ℕ) (A : Actor) (e : Term) → chooses e ≡ false → rule_by X s a A e ≡ rule s a A e
unfolding operate_by chooses
rule-before X s a A e h = each-rule (operate_by X) present (λ e r u. chooses e ≡ false → r ≡ u) s a A (λ e r k. refl) (λ o es k. rw k) e h ∙ rule-present s a A e

-- A move answers and leaves what it does without the two, refusals too, unless the actor's redex is one of them.
pub move-before : (X : TwoRules) (B : Bounds) (σ : State) (a : ℕ) → ((A : Actor) → get_elem? σ.actors a ≡ some A → chooses (redex A.expr) ≡ false) → move_by (rule_by X) B σ a ≡ move_within B σ a
move-before X B σ a h = redex-agrees (rule_by X) B σ a λ A e. rule-before X σ.actors a A (redex A.expr) (h A e)
