-- Request P3, one name with several counts: every state is one still. By the condition on lists of methods as it was (`specs/NamesOnceStates`), the states
-- are those that have no method's name twice. So their moves, runs and calls are what they were, and leave such a state. Assumes nothing.
use Rattle.std.specs.Prelude.{ℕ, ◌≡◌, refl, ◌&&◌, List, [], ◌∷◌, ◌++◌, ◌↔◌, length, eqb}
use Rattle.std.proofs.Common.{sym, ap, ◌∙◌, subst as transp}
use Rattle.std.proofs.lemmas.List.{length-map}
use Rattle.atlite.specs.Base.{done, all}
use Rattle.atlite_laws.specs.Facts.{Every, holds, every-done}
use Rattle.atlite.specs.Term.{Signature, same_signature}
use Rattle.atlite.specs.State.{State}
use Rattle.atlite.specs.Limits.{Bounds, full}
use Rattle.atlite.specs.Move.{AfterMove, move_within, move}
use Rattle.atlite.specs.Run.{run}
use Rattle.atlite_laws.specs.Laws.{few-are, are-few}
use Rattle.atlite.specs.Valid.{is_name, IsState}
use Rattle.invariant.specs.Moves.{move-keeps, run-keeps}
use Rattle.layout.specs.Layout.{encode}
use Rattle.promises.specs.Meaning.{lent, move_call, run_call}
use Rattle.layout_laws.specs.MeaningLaws.{lent-state}
use Rattle.changes.specs.MoveBy.{move_by, run_by, move_call_by, run_call_by}
use Rattle.changes.specs.NamesOnce.{names, Once, once-distinct, OnceState, rule_before}
use Rattle.changes.specs.Throughout.{AnyOperator}
use Rattle.changes.specs.StateBy.{Present}
use Rattle.changes.specs.NamesOnceStates.{Former, FormerState}
use Rattle.changes.proofs.NamesOnce.{move-once, move-as-before, run-once, run-as-before, move-call-as-before, run-call-as-before}
use Rattle.changes.proofs.StateBy.{state-now, state-throughout, state-with, state-wider}

-- ---- the condition before the request: at most 4 methods, no name twice, and each a name
all_named : (w : ℕ) (l : List Signature) → all (is_name w) (names l) ≡ all (λ s. is_name w s.0) l
unfolding all
all_named w [] = refl
all_named w (s ∷ l) = ap (λ b. is_name w s.0 && b) (all_named w l)

-- it asks what the present one asks, and that no name is there twice
pub former-present : (w : ℕ) (l : List Signature) → Former w l → Present w l
former-present w l h =
    let r = few-are 4 eqb (is_name w) (names l) h in
    are-few 4 same_signature (λ s. is_name w s.0) l (rw (sym (length-map l (λ s. s.0))) r.0) (once-distinct l r.1) (sym (all_named w l) ∙ r.2)

pub former-once : (w : ℕ) (l : List Signature) → Former w l → Once l
former-once w l h = (few-are 4 eqb (is_name w) (names l) h).1

pub present-former : (w : ℕ) (l : List Signature) → Present w l → Once l → Former w l
present-former w l h d =
    let r = few-are 4 same_signature (λ s. is_name w s.0) l h in
    are-few 4 eqb (is_name w) (names l) (rw (length-map l (λ s. s.0)) r.0) d (all_named w l ∙ r.2)

-- So every state as it was is one still: it is a state that has no method's name twice, and each such state was one.
pub former-state : (σ : State) → FormerState σ ↔ (IsState σ × OnceState σ)
former-state σ = (
  λ h. (
    (state-now σ).0 (state-wider Former Present σ (former-present (length σ.words)) h),
    state-throughout (λ w. Once) σ (state-wider Former (λ w. Once) σ (former-once (length σ.words)) h),
  ),
  λ r. state-with Present Former σ AnyOperator Once (present-former (length σ.words)) ((state-now σ).1 r.0) r.1,
)

-- ---- what is done with a state as it was: the same moves and runs, refusals too, which leave such a state
module _ (σ : State) (h : FormerState σ) where
  pub former-state-moves-as-before : (B : Bounds) (a : ℕ) → move_by rule_before B σ a ≡ move_within B σ a
  former-state-moves-as-before B a = move-as-before B σ a ((former-state σ).0 h).1

  pub former-state-runs-as-before : (es : List ℕ) → run_by rule_before σ es ≡ run σ es
  former-state-runs-as-before es = run-as-before σ es ((former-state σ).0 h).1

  pub former-move-keeps : (a : ℕ) (M : AfterMove) → move σ a ≡ done M → FormerState M.state
  unfolding move
  former-move-keeps a M e = let r = (former-state σ).0 h in (former-state M.state).1 (move-keeps σ a M r.0 e, move-once full σ a M r.1 e)

  pub former-run-keeps : (es : List ℕ) → FormerState (run σ es).state
  former-run-keeps es = let r = (former-state σ).0 h in (former-state (run σ es).state).1 (run-keeps σ es r.0, run-once σ es r.1)

  -- its words are lent as they were, whatever stands behind them, and the calls answer and write what they did
  pub former-lent : (r : List ℕ) → lent (encode σ ++ r) ≡ done σ
  former-lent r = lent-state σ r ((former-state σ).0 h).0

  once-lent : (r : List ℕ) (τ : State) → lent (encode σ ++ r) ≡ done τ → OnceState τ
  once-lent r τ e = every-done (transp (Every OnceState) (sym (former-lent r)) (holds ((former-state σ).0 h).1)) e

  pub former-move-call : (r : List ℕ) (a : ℕ) → move_call_by rule_before (encode σ ++ r) a ≡ move_call (encode σ ++ r) a
  former-move-call r a = move-call-as-before (encode σ ++ r) (once-lent r) a

  pub former-run-call : (r es : List ℕ) → run_call_by rule_before (encode σ ++ r) es ≡ run_call (encode σ ++ r) es
  former-run-call r es = run-call-as-before (encode σ ++ r) (once-lent r) es
