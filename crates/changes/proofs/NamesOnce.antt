-- Request P3, one name with several counts: where no list of methods has a name twice, nothing changed. Each move and each run by the look-up as it was
-- (`specs/NamesOnce`) is the present one, refusals too, and leaves a state of that kind; a script that repeats no method's name begins in one.
-- Assumes nothing.
use Rattle.std.specs.Prelude.{ℕ, ◌≡◌}
use Rattle.std.proofs.Math.Path.{refl, ap}
use Rattle.std.proofs.Common.{◌∙◌}
use mathlib.Core.List.{List, [], ◌∷◌}
use Rattle.atlite.specs.Base.{Result, done, ◌>>=◌, any, distinct_by}
use Rattle.atlite_laws.specs.Facts.{Every, holds, nothing, every_of, every-weaken}
use Rattle.atlite.specs.Term.{Value, Name, plain, two_way, resolve, register, Op, Term, Terms, values_of}
use Rattle.atlite.specs.State.{Actor, State}
use Rattle.atlite.specs.Redex.{redex}
use Rattle.atlite.specs.Outcome.{inner, becomes, own_entity}
use Rattle.atlite.specs.Rules.{methods_of, invoke, call_rule, call_by_name, receiver_of, operate, rule}
use Rattle.atlite.specs.Limits.{Bounds}
use Rattle.atlite.specs.Move.{AfterMove, move_within}
use Rattle.atlite.specs.Run.{run}
use Rattle.atlite.specs.Table.{Table}
use Rattle.atlite.specs.Load.{load}
use Rattle.layout_laws.specs.KindRows.{Row, is_bare, is_field, is_call, is_send, row}
use Rattle.promises.specs.Meaning.{lent, move_call, run_call}
use Rattle.changes.specs.MoveBy.{move_by, run_by, move_call_by, run_call_by, redex-agrees, run-kept, run-same, move-call-same, run-call-same, present, by_message, each-rule, rule-present}
use Rattle.changes.specs.Throughout.{Allows, AnyOperator}
use Rattle.changes.specs.ThroughoutMoves.{ThroughoutActor}
use Rattle.changes.specs.ThroughoutLoads.{AnyWritten}
use Rattle.changes.specs.NamesOnce.{LookUp, invoke_before, call_by, call_by_name_by, operate_by, rule_by, rule_before, Once, invoke-as-before, OnceState, OnceTable}
use Rattle.changes.proofs.ThroughoutMoves.{all-at, own-throughout, methods-throughout, move-throughout}
use Rattle.changes.proofs.ThroughoutLoads.{load-throughout}

-- ---- it is the present rule where the look-up finds what the present one finds in the methods of the actor's own entities
then_same : {X Y : Type 0} {P : X → Type 0} {r : Result X} {f g : X → Result Y} → Every P r → ((x : X) → P x → f x ≡ g x) → (r >>= f) ≡ (r >>= g)
then_same (holds {a} p) k = k a p
then_same nothing k = refl

abbrev Finds : LookUp → ℕ → Actor → Type 0
Finds I a A = (v : Value) → Every (λ o. Every (λ M. (m : ℕ) (vs : List Value) → I M m v vs ≡ invoke M m v vs) (methods_of o)) (own_entity a A v)

module _ (I : LookUp) (s : List Actor) (a : ℕ) (A : Actor) (h : Finds I a A) where
  call_same : (v : Value) (m : ℕ) (vs : List Value) → call_by I a A v m vs ≡ call_rule a A v m vs
  unfolding call_by call_rule
  call_same v m vs = then_same (h v) λ o k. then_same k λ M i. ap (λ r. r >>= becomes inner A) (i m vs)

  by_name-same : (v : Value) (m : Name) (vs : List Value) → call_by_name_by I s a A v m vs ≡ call_by_name s a A v m vs
  unfolding call_by_name_by call_by_name
  by_name-same v (plain m) vs = call_same v m vs
  by_name-same v (two_way m) vs = refl
  by_name-same v resolve vs = refl
  by_name-same v register vs = refl

  asked-same : (m : Name) (vs : List Value) → (receiver_of vs >>= λ (v, us). call_by_name_by I s a A v m us) ≡ (receiver_of vs >>= λ (v, us). call_by_name s a A v m us)
  unfolding receiver_of
  asked-same m [] = refl
  asked-same m (v ∷ vs) = by_name-same v m vs

  operate-same : {o : Op Name} (es : Terms) → Row o → operate_by I s a A o es ≡ present s a A o es
  unfolding operate_by by_message operate
  operate-same es (is_bare o n e f w) = rw e.1
  operate-same es (is_field c k n e f i w) = rw (e.0 f).1
  operate-same es (is_call m) = asked-same m (values_of es)
  operate-same es (is_send m) = refl

  rule-same : (e : Term) → rule_by I s a A e ≡ rule s a A e
  rule-same e = each-rule (operate_by I) present (λ e r u. r ≡ u) s a A (λ e r. refl) (λ o es. operate-same es (row o)) e ∙ rule-present s a A e

-- so by the present look-up it is the present rule
pub look-up-now : (B : Bounds) (σ : State) (a : ℕ) → move_by (rule_by invoke) B σ a ≡ move_within B σ a
look-up-now B σ a = redex-agrees (rule_by invoke) B σ a λ A _.
    rule-same invoke σ.actors a A (λ v. every_of (own_entity a A v) λ o _. every_of (methods_of o) λ M _ m vs. refl) (redex A.expr)

-- ---- states: no list of methods has a name twice, be it an entity's or a literal's, however deep; of operators nothing is asked
-- functions, which rules and abbreviations form, have one method
pub once-formed : Allows AnyOperator Once
unfolding distinct_by any
once-formed = record { sets = λ f. tt; calls = λ m. tt; sends = λ m. tt; function = λ s. refl }

-- A move of such a state leaves such a state,
pub move-once : (B : Bounds) (σ : State) (a : ℕ) (M : AfterMove) → OnceState σ → move_within B σ a ≡ done M → OnceState M.state
move-once = move-throughout AnyOperator Once once-formed

-- and it is the move by the former rule, refusals too.
pub move-as-before : (B : Bounds) (σ : State) (a : ℕ) → OnceState σ → move_by rule_before B σ a ≡ move_within B σ a
move-as-before B σ a h = redex-agrees rule_before B σ a λ A e. rule-same invoke_before σ.actors a A (finds A (all-at (ThroughoutActor AnyOperator Once) σ.actors a A h e)) (redex A.expr)
  where
    finds : (A : Actor) → ThroughoutActor AnyOperator Once A → Finds invoke_before a A
    finds A k v = every-weaken (own-throughout AnyOperator Once A k a v) λ o i. every-weaken (methods-throughout AnyOperator Once o i) λ M j m vs. invoke-as-before M m v vs j.0

-- So are whole runs: the state in the end is such a state,
pub run-once : (σ : State) (es : List ℕ) → OnceState σ → OnceState (run σ es).state
run-once = run-kept OnceState move-once

-- and the run by the former rule makes and refuses as many moves and ends in the same state.
pub run-as-before : (σ : State) (es : List ℕ) → OnceState σ → run_by rule_before σ es ≡ run σ es
run-as-before = run-same OnceState move-once rule_before move-as-before

-- The calls: the same answers and the same words, where the lent words are no state, or such a one.
module _ (w : List ℕ) (h : (σ : State) → lent w ≡ done σ → OnceState σ) where
  pub move-call-as-before : (a : ℕ) → move_call_by rule_before w a ≡ move_call w a
  move-call-as-before = move-call-same OnceState move-once rule_before move-as-before w h

  pub run-call-as-before : (es : List ℕ) → run_call_by rule_before w es ≡ run_call w es
  run-call-as-before = run-call-same OnceState move-once rule_before move-as-before w h

-- ---- scripts in which no literal has a method's name twice
-- Such a table loads to such a state,
pub load-once : (T : Table) (σ : State) → OnceTable T → load T ≡ done σ → OnceState σ
load-once = load-throughout AnyOperator Once once-formed AnyWritten (λ o h. tt) tt

-- and from there it runs as by the former rule.
pub script-as-before : (T : Table) (σ : State) (es : List ℕ) → OnceTable T → load T ≡ done σ → run_by rule_before σ es ≡ run σ es
script-as-before T σ es h e = run-as-before σ es (load-once T σ h e)
