-- A move, a run and their calls by any rule for the redex: by the present rule they are the present ones. So a request can state what they were
-- before it. Where a rule makes the present moves in every state of a kind, and moves stay in that kind, it makes the present runs and calls.
-- Assumes nothing.
use Rattle.std.specs.Prelude.{ℕ, ◌≡◌, if◌then◌else◌}
use Rattle.std.proofs.Math.Path.{refl, ap}
use Rattle.std.proofs.Common.{◌∙◌}
use mathlib.Core.List.{List, [], ◌∷◌}
use Rattle.std.proofs.Math.Option.{Option, none, some}
use Rattle.std.proofs.Math.ListN.{get_elem?}
use Rattle.atlite.specs.Base.{Result, done, refused, ◌>>=◌, or_refuse}
use Rattle.atlite.specs.Term.{Name, Op, Shape, exactly, on_field, calling, sending, Term, val, var, op, let_in, future, literal, Terms, is_value, values_of}
use Rattle.atlite.specs.State.{Actor, State}
use Rattle.atlite.specs.Redex.{redex}
use Rattle.atlite.specs.Outcome.{Outcome}
use Rattle.atlite.specs.Rules.{operate, rule}
use Rattle.atlite.specs.Limits.{Bounds, full}
use Rattle.atlite.specs.Move.{take_rule, turn, free, Answer, AfterMove, limited, move_within, move}
use Rattle.atlite.specs.Run.{Counts, AfterRun, begun, after_entry, run_from, run}
use Rattle.layout.specs.Layout.{encode}
use Rattle.promises.specs.Meaning.{Reply, answered, lent, move_call, run_call}

abbrev pub Rule : Type 0
Rule = List Actor → ℕ → Actor → Term → Result Outcome

-- ---- rules in which operators go by another rule than theirs
abbrev pub Operators : Type 0
Operators = List Actor → ℕ → Actor → Op Name → Terms → Result Outcome

abbrev pub present : Operators
present s a A o es = operate s a A o (values_of es) es

unfoldable pub rule_of : Operators → Rule
rule_of X s a A (val v) = rule s a A (val v)
rule_of X s a A (var x) = rule s a A (var x)
rule_of X s a A (op o es) = X s a A o es
rule_of X s a A (let_in x e d) = rule s a A (let_in x e d)
rule_of X s a A (future x y e) = rule s a A (future x y e)
rule_of X s a A (literal k fs ms) = rule s a A (literal k fs ms)

-- f of the name where an operator of the shape calls, g where it sends, x for all others
unfoldable pub by_message : {X : Type 0} → Shape Name → (Name → X) → (Name → X) → X → X
by_message (exactly k) f g x = x
by_message (on_field n k) f g x = x
by_message (calling m) f g x = f m
by_message (sending m) f g x = g m

-- what is so of two such rules for every operator is so of them for every term, if it is so of a result and itself
pub each-rule : (X Y : Operators) (Q : Term → Result Outcome → Result Outcome → Type 0) (s : List Actor) (a : ℕ) (A : Actor)
    → ((e : Term) (r : Result Outcome) → Q e r r) → ((o : Op Name) (es : Terms) → Q (op o es) (X s a A o es) (Y s a A o es)) → (e : Term) → Q e (rule_of X s a A e) (rule_of Y s a A e)
unfolding rule_of
each-rule X Y Q s a A h k (val v) = h (val v) _
each-rule X Y Q s a A h k (var x) = h (var x) _
each-rule X Y Q s a A h k (op o es) = k o es
each-rule X Y Q s a A h k (let_in x e d) = h (let_in x e d) _
each-rule X Y Q s a A h k (future x y e) = h (future x y e) _
each-rule X Y Q s a A h k (literal n fs ms) = h (literal n fs ms) _

-- by the present rules of operators it is the present rule
pub rule-present : (s : List Actor) (a : ℕ) (A : Actor) (e : Term) → rule_of present s a A e ≡ rule s a A e
unfolding rule_of rule
rule-present s a A (val v) = refl
rule-present s a A (var x) = refl
rule-present s a A (op o es) = refl
rule-present s a A (let_in x e d) = refl
rule-present s a A (future x y e) = refl
rule-present s a A (literal k fs ms) = refl

-- ---- turns, moves, runs and calls
unfoldable pub turn_by : Rule → List Actor → ℕ → Actor → Result Outcome
turn_by R s a A = if is_value A.expr then take_rule a A A.inbox else R s a A (redex A.expr)

unfoldable pub move_by : Rule → Bounds → State → ℕ → Result AfterMove
move_by R B σ a = do
  A ← or_refuse 8 (get_elem? σ.actors a)
  E ← turn_by R σ.actors a A
  limited B σ a E

-- the entries of a schedule
unfoldable pub run_from_by : Rule → AfterRun → List ℕ → AfterRun
run_from_by R r [] = r
run_from_by R r (a ∷ es) = run_from_by R (after_entry r (move_by R full r.state a)) es

unfoldable pub run_by : Rule → State → List ℕ → AfterRun
run_by R σ es = run_from_by R (begun σ) es

-- the calls, on lent words
unfoldable pub move_call_by : Rule → List ℕ → ℕ → Reply Answer
move_call_by R state a = answered state (do
  σ ← lent state
  M ← move_by R full σ a
  done (M.answer, encode M.state))

unfoldable pub run_call_by : Rule → List ℕ → List ℕ → Reply Counts
run_call_by R state entries = answered state (do
  σ ← lent state
  let r = run_by R σ entries
  done (r.counts, encode r.state))

-- two rules that agree where the actor's turn asks them make one move
pub move-agrees : (R S : Rule) (B : Bounds) (σ : State) (a : ℕ) → ((A : Actor) → get_elem? σ.actors a ≡ some A → turn_by R σ.actors a A ≡ turn_by S σ.actors a A) → move_by R B σ a ≡ move_by S B σ a
unfolding move_by or_refuse
move-agrees R S B σ a h = go (get_elem? σ.actors a) refl
  where
    go : (o : Option Actor) → get_elem? σ.actors a ≡ o → (or_refuse 8 o >>= λ A. (turn_by R σ.actors a A >>= limited B σ a)) ≡ (or_refuse 8 o >>= λ A. (turn_by S σ.actors a A >>= limited B σ a))
    go none e = refl
    go (some A) e = ap (λ r. r >>= limited B σ a) (h A e)

pub move-now : (B : Bounds) (σ : State) (a : ℕ) → move_by rule B σ a ≡ move_within B σ a
unfolding move_by move_within free turn_by turn or_refuse
move-now B σ a = go (get_elem? σ.actors a)
  where
    go : (o : Option Actor) → (or_refuse 8 o >>= λ A. (turn_by rule σ.actors a A >>= limited B σ a)) ≡ ((or_refuse 8 o >>= turn σ.actors a) >>= limited B σ a)
    go none = refl
    go (some A) = refl

-- so a rule that agrees with the present one on the actor's redex makes the present move
pub redex-agrees : (R : Rule) (B : Bounds) (σ : State) (a : ℕ)
    → ((A : Actor) → get_elem? σ.actors a ≡ some A → R σ.actors a A (redex A.expr) ≡ rule σ.actors a A (redex A.expr)) → move_by R B σ a ≡ move_within B σ a
unfolding turn_by
redex-agrees R B σ a h = move-agrees R rule B σ a (λ A e. ap (λ r. if is_value A.expr then take_rule a A A.inbox else r) (h A e)) ∙ move-now B σ a

from-now : (R : AfterRun) (es : List ℕ) → run_from_by rule R es ≡ run_from R es
unfolding run_from_by run_from move
from-now R [] = refl
from-now R (a ∷ es) = ap (λ m. run_from_by rule (after_entry R m) es) (move-now full R.state a) ∙ from-now (after_entry R (move R.state a)) es

pub run-now : (σ : State) (es : List ℕ) → run_by rule σ es ≡ run σ es
unfolding run_by run
run-now σ es = from-now (begun σ) es

-- ---- a kind of states that moves stay in
abbrev pub Kept : (State → Type 0) → Type 0
Kept K = (B : Bounds) (σ : State) (a : ℕ) (M : AfterMove) → K σ → move_within B σ a ≡ done M → K M.state

module _ (K : State → Type 0) (k : Kept K) where
  after_kept : (r : AfterRun) (a : ℕ) → K r.state → K (after_entry r (move r.state a)).state
  unfolding after_entry move
  after_kept r a h = go (move r.state a) refl
    where
      go : (m : Result AfterMove) → move r.state a ≡ m → K (after_entry r m).state
      go (refused n) e = h
      go (done M) e = k full r.state a M h e

  from-kept : (r : AfterRun) (es : List ℕ) → K r.state → K (run_from r es).state
  unfolding run_from
  from-kept r [] h = h
  from-kept r (a ∷ es) h = from-kept (after_entry r (move r.state a)) es (after_kept r a h)

  -- runs stay in it too,
  pub run-kept : (σ : State) (es : List ℕ) → K σ → K (run σ es).state
  unfolding run
  run-kept σ es h = from-kept (begun σ) es h

  -- and a rule that makes the present moves in it:
  module _ (R : Rule) (same : (B : Bounds) (σ : State) (a : ℕ) → K σ → move_by R B σ a ≡ move_within B σ a) where
    from-same : (r : AfterRun) (es : List ℕ) → K r.state → run_from_by R r es ≡ run_from r es
    unfolding run_from_by run_from move
    from-same r [] h = refl
    from-same r (a ∷ es) h = ap (λ m. run_from_by R (after_entry r m) es) (same full r.state a h) ∙ from-same (after_entry r (move r.state a)) es (after_kept r a h)

    -- its runs make and refuse as many moves and end in the same state,
    pub run-same : (σ : State) (es : List ℕ) → K σ → run_by R σ es ≡ run σ es
    unfolding run_by run
    run-same σ es h = from-same (begun σ) es h

    -- and its calls give the same answers and the same words, where the lent words are no state, or one of the kind
    module _ (w : List ℕ) (h : (σ : State) → lent w ≡ done σ → K σ) where
      calls-agree : {A : Type 0} (f g : State → Result (A × List ℕ)) → ((σ : State) → K σ → f σ ≡ g σ) → answered w (lent w >>= f) ≡ answered w (lent w >>= g)
      calls-agree {A} f g e = ap (answered w) (go (lent w) refl)
        where
          go : (L : Result State) → lent w ≡ L → (L >>= f) ≡ (L >>= g)
          go (refused n) i = refl
          go (done σ) i = e σ (h σ i)

      pub move-call-same : (a : ℕ) → move_call_by R w a ≡ move_call w a
      unfolding move_call_by move_call move
      move-call-same a = calls-agree _ _ λ σ i. ap (λ r. r >>= λ M. done (M.answer, encode M.state)) (same full σ a i)

      pub run-call-same : (es : List ℕ) → run_call_by R w es ≡ run_call w es
      unfolding run_call_by run_call
      run-call-same es = calls-agree _ _ λ σ i. ap (λ (r : AfterRun). done (r.counts, encode r.state)) (run-same σ es i)
