-- Request P3, one name with several counts: the look-up as it was stands here once more, and finds the same where a list of methods has no name twice;
-- the states and the scripts in which none has. That nothing changed for these stands in `proofs/NamesOnce`. Assumes nothing.
--
-- A rule is stated by any look-up: only calls of methods ask it.
use Rattle.std.specs.Prelude.{ℕ, ◌≡◌, Bool, true, false, ◌&&◌, not, length, eqb, if◌then◌else◌}
use Rattle.std.proofs.Math.Path.{refl, ap}
use Rattle.std.proofs.Common.{sym, ◌∙◌, eqb-true}
use Rattle.std.proofs.lemmas.Bool.{false≢true}
use mathlib.Core.List.{List, [], ◌∷◌, map}
use Rattle.atlite.specs.Base.{Result, done, refused, ◌>>=◌, ◌>>◌, require, any, distinct, distinct_by, member}
use Rattle.atlite_laws.specs.Facts.{and₂, both₂, not-true}
use Rattle.atlite.specs.Term.{this, ·t, ·x, apply, Value, null, Name, plain, two_way, resolve, register, shape, Term, val, var, Methods, no_method, method, Signature, same_signature, signatures, values_of}
use Rattle.atlite.specs.Subst.{Subst, subst, subst_params}
use Rattle.atlite.specs.State.{Actor, State}
use Rattle.atlite.specs.Outcome.{inner, Outcome, becomes, own_entity}
use Rattle.atlite.specs.Rules.{methods_of, invoke, call_by_name, receiver_of}
use Rattle.atlite.specs.Table.{Table}
use Rattle.changes.specs.MoveBy.{Rule, Operators, present, rule_of, by_message}
use Rattle.changes.specs.Throughout.{AnyOperator}
use Rattle.changes.specs.ThroughoutMoves.{ThroughoutState}
use Rattle.changes.specs.ThroughoutLoads.{AnyWritten, ThroughoutTable}
use Rattle.changes.specs.LookUp.{invoke-none}

-- ---- the look-up before the request: by the name alone, and then the number of arguments had to be right
abbrev pub LookUp : Type 0
LookUp = Methods → ℕ → Value → List Value → Result Term

unfoldable pub invoke_before : LookUp
invoke_before no_method m v vs = refused 12
invoke_before (method k xs e M) m v vs =
    if eqb k m then (require 12 (eqb (length xs) (length vs)) >> done (subst this (val v) (subst_params xs vs e))) else invoke_before M m v vs

-- ---- a rule by any look-up
unfoldable pub call_by : LookUp → ℕ → Actor → Value → ℕ → List Value → Result Outcome
call_by I a A v m vs = do
  o ← own_entity a A v
  M ← methods_of o
  e ← I M m v vs
  becomes inner A e

unfoldable pub call_by_name_by : LookUp → List Actor → ℕ → Actor → Value → Name → List Value → Result Outcome
call_by_name_by I s a A v (plain m) vs = call_by I a A v m vs
call_by_name_by I s a A v (two_way m) vs = call_by_name s a A v (two_way m) vs
call_by_name_by I s a A v resolve vs = call_by_name s a A v resolve vs
call_by_name_by I s a A v register vs = call_by_name s a A v register vs

unfoldable pub operate_by : LookUp → Operators
operate_by I s a A o es =
    let r = present s a A o es in
    by_message (shape o) (λ m. receiver_of (values_of es) >>= λ (v, us). call_by_name_by I s a A v m us) (λ m. r) r

abbrev pub rule_by : LookUp → Rule
rule_by I = rule_of (operate_by I)

abbrev pub rule_before : Rule
rule_before = rule_by invoke_before

-- ---- lists of methods that have no name twice
abbrev pub names : List Signature → List ℕ
names l = map (λ s. s.0) l

abbrev pub Once : List Signature → Type 0
Once l = distinct (names l) ≡ true

-- a name that is not there is not there with any count
names-none : (l : List Signature) (m n : ℕ) → member m (names l) ≡ false → any (same_signature (m, n)) l ≡ false
unfolding any
names-none [] m n h = refl
names-none ((k, i) ∷ l) m n h = go (eqb m k) h (names-none l m n)
  where
    go : (b : Bool) → (if b then true else member m (names l)) ≡ false → (member m (names l) ≡ false → any (same_signature (m, n)) l ≡ false)
        → (if b && eqb n i then true else any (same_signature (m, n)) l) ≡ false
    go true h ih = absurd (false≢true (sym h))
    go false h ih = ih h

-- so both look-ups find the same in them, or refuse
pub invoke-as-before : (M : Methods) (m : ℕ) (v : Value) (vs : List Value) → Once (signatures M) → invoke_before M m v vs ≡ invoke M m v vs
unfolding invoke_before invoke signatures distinct_by require
invoke-as-before no_method m v vs h = refl
invoke-as-before (method k xs e M) m v vs h =
    let r = and₂ (not (member k (names (signatures M)))) (distinct (names (signatures M))) h in
    go (eqb k m) refl (eqb (length xs) (length vs)) (not-true (member k (names (signatures M))) r.0) (invoke-as-before M m v vs r.1)
  where
    go : (b : Bool) → eqb k m ≡ b → (c : Bool) → member k (names (signatures M)) ≡ false → invoke_before M m v vs ≡ invoke M m v vs
        → (if b then (require 12 c >> done (subst this (val v) (subst_params xs vs e))) else invoke_before M m v vs)
        ≡ (if b && c then done (subst this (val v) (subst_params xs vs e)) else invoke M m v vs)
    go false q c n ih = ih
    go true q true n ih = refl
    go true q false n ih =
        sym (invoke-none M m v vs (names-none (signatures M) m (length vs) (ap (λ x. member x (names (signatures M))) (sym (eqb-true k m q)) ∙ n)))

-- By example it is not so of others: of two methods of one name the former look-up knew the first alone.
abbrev two_counts : Methods
two_counts = method apply (·x ∷ []) (var ·x) (method apply (·x ∷ ·t ∷ []) (var ·t) no_method)

pub missed-before : (v w : Value) → invoke_before two_counts apply null (v ∷ w ∷ []) ≡ refused 12
unfolding invoke_before require
missed-before v w = refl

pub found-now : (v w : Value) → invoke two_counts apply null (v ∷ w ∷ []) ≡ done (val w)
unfolding invoke Subst
found-now v w = refl

-- different names make different signatures
pub once-distinct : (l : List Signature) → Once l → distinct_by same_signature l ≡ true
unfolding distinct_by
once-distinct [] h = refl
once-distinct ((m, n) ∷ l) h =
    let r = and₂ (not (member m (names l))) (distinct (names l)) h in
    both₂ (ap not (names-none l m n (not-true (member m (names l)) r.0))) (once-distinct l r.1)

-- ---- states: no list of methods has a name twice, be it an entity's or a literal's, however deep; of operators nothing is asked
abbrev pub OnceState : State → Type 0
OnceState σ = ThroughoutState AnyOperator Once σ

-- ---- scripts in which no literal has a method's name twice
abbrev pub OnceTable : Table → Type 0
OnceTable T = ThroughoutTable AnyWritten Once T
