-- Request P1, null as a reply: the listener of a .register to null is sent null. What null takes, and the rule of send as it was, which stands here once
-- more: it refused that .register with 10. Assumes nothing.
--
-- A rule is stated by any rule of send: by the present one it is the present rule, by the former one it is the rule as it was. That a move which was
-- made before is made as before, and what else was refused is refused as before, stands in `proofs/NullReply`.
use Rattle.std.specs.Prelude.{ℕ, ◌≡◌, List, [], ◌∷◌, length, ltb}
use Rattle.std.proofs.Math.Path.{refl}
use Rattle.std.proofs.Math.Bool.{false}
use Rattle.std.proofs.Math.Option.{some}
use Rattle.std.proofs.Math.ListN.{get_elem?}
use Rattle.atlite.specs.Base.{Result, refused, ◌>>=◌, ◌>>◌, require}
use Rattle.atlite.specs.Term.{Value, null, num, ref, Name, plain, two_way, resolve, register, send, shape, Term, val, op, Terms, values_of, is_value}
use Rattle.atlite.specs.State.{message, Actor, State}
use Rattle.atlite.specs.Redex.{redex}
use Rattle.atlite.specs.Outcome.{inner, sends, Outcome, becomes}
use Rattle.atlite.specs.Passing.{isolates_for}
use Rattle.atlite.specs.Rules.{send_apply, forward, ownerless_rule, send_rule, receiver_of, operate, rule}
use Rattle.changes.specs.MoveBy.{Rule, Operators, present, rule_of, by_message}

-- ---- what null takes
-- the listener that a .register brings to it is sent null, in one move inside the expression
pub null-answers : (s : List Actor) (a : ℕ) (A : Actor) (es : Terms) (l : Value) → values_of es ≡ null ∷ l ∷ [] → rule s a A (op (send register) es) ≡ becomes inner A (send_apply l null)
unfolding rule operate receiver_of send_rule ownerless_rule forward
null-answers s a A es l e = rw e

-- and nothing else
pub null-refuses : (s : List Actor) (a : ℕ) (A : Actor) (m : Name) (es : Terms) (vs : List Value) → values_of es ≡ null ∷ vs → (m ≡ register → ⊥) → rule s a A (op (send m) es) ≡ refused 10
unfolding rule operate receiver_of send_rule ownerless_rule
null-refuses s a A (plain m) es vs e h = rw e
null-refuses s a A (two_way m) es vs e h = rw e
null-refuses s a A resolve es vs e h = rw e
null-refuses s a A register es vs e h = absurd (h refl)

-- ---- a rule by a rule of send
abbrev pub SendRule : Type 0
SendRule = List Actor → ℕ → Actor → Value → Name → List Value → Result Outcome

unfoldable pub operate_by : SendRule → Operators
operate_by S s a A o es =
    let r = present s a A o es in
    by_message (shape o) (λ m. r) (λ m. receiver_of (values_of es) >>= λ (v, us). S s a A v m us) r

abbrev pub rule_by : SendRule → Rule
rule_by S = rule_of (operate_by S)

-- ---- the rule of send before the request
unfoldable pub send_before : SendRule
send_before s a A null m vs = refused 10
send_before s a A (num n) (plain m) vs = refused 10
send_before s a A (num n) (two_way m) vs = refused 10
send_before s a A (num n) resolve vs = refused 10
send_before s a A (num n) register vs = becomes inner A (forward (num n) register vs)
send_before s a A (ref b r n) m vs = do
  require 12 (ltb b (length s))
  met ← isolates_for b a A vs
  becomes (sends (record { to = b; mail = message (ref b r n) m vs; copies = met })) A (val null)

-- ---- what was: the same, or a refusal with 10 where P holds
pub data Was (P : Type 0) {A : Type 0} (old new : Result A) : Type 0 where
  same : old ≡ new → Was P old new
  stopped : P → old ≡ refused 10 → Was P old new

-- the term is a .register sent to null
pub record RegistersNull (e : Term) : Type 0 where
  pub parts : Terms
  pub others : List Value
  pub is : e ≡ op (send register) parts
  pub first : values_of parts ≡ null ∷ others

-- so is the redex of the actor a, whose turn it is
pub record NullAsked (σ : State) (a : ℕ) : Type 0 where
  pub actor : Actor
  pub here : get_elem? σ.actors a ≡ some actor
  pub busy : is_value actor.expr ≡ false
  pub registers : RegistersNull (redex actor.expr)
