-- Request P2, choosing: where no term of a state has one of the two operators, nothing changed. Each move and each run is what it is by any rules of
-- the two, so by none of them, and it leaves a state of that kind. Assumes nothing.
use Rattle.std.specs.Prelude.{ℕ, ◌≡◌, List}
use Rattle.atlite.specs.Base.{done}
use Rattle.atlite.specs.State.{State}
use Rattle.atlite.specs.Limits.{Bounds}
use Rattle.atlite.specs.Move.{AfterMove, move_within}
use Rattle.atlite.specs.Run.{run}
use Rattle.promises.specs.Meaning.{lent, move_call, run_call}
use Rattle.changes.specs.MoveBy.{move_by, run_by, move_call_by, run_call_by, run-kept, run-same, move-call-same, run-call-same}
use Rattle.changes.specs.Choosing.{TwoRules, rule_by}
use Rattle.changes.specs.Throughout.{AnyMethods}
use Rattle.changes.specs.ThroughoutMoves.{ThroughoutActor}
use Rattle.changes.specs.Without.{Neither}
use Rattle.changes.specs.WithoutMoves.{WithoutState}
use Rattle.changes.proofs.Choosing.{move-before}
use Rattle.changes.proofs.ThroughoutMoves.{all-at, move-throughout}
use Rattle.changes.proofs.Without.{redex-neither, neither-formed}

-- A move of a state without the two leaves a state without them,
pub move-without : (B : Bounds) (σ : State) (a : ℕ) (M : AfterMove) → WithoutState σ → move_within B σ a ≡ done M → WithoutState M.state
move-without = move-throughout Neither AnyMethods neither-formed

-- and it is the move by any rules of the two, refusals too.
pub move-as-before : (X : TwoRules) (B : Bounds) (σ : State) (a : ℕ) → WithoutState σ → move_by (rule_by X) B σ a ≡ move_within B σ a
move-as-before X B σ a h = move-before X B σ a λ A e. redex-neither A.expr (all-at (ThroughoutActor Neither AnyMethods) σ.actors a A h e).expr

-- So are whole runs: the state in the end is without the two,
pub run-without : (σ : State) (es : List ℕ) → WithoutState σ → WithoutState (run σ es).state
run-without = run-kept WithoutState move-without

-- and the run by any rules of the two makes and refuses as many moves and ends in the same state.
pub run-as-before : (X : TwoRules) (σ : State) (es : List ℕ) → WithoutState σ → run_by (rule_by X) σ es ≡ run σ es
run-as-before X = run-same WithoutState move-without (rule_by X) (move-as-before X)

-- The calls: the same answers and the same words, where the lent words are no state, or one without the two.
module _ (X : TwoRules) (w : List ℕ) (h : (σ : State) → lent w ≡ done σ → WithoutState σ) where
  pub move-call-as-before : (a : ℕ) → move_call_by (rule_by X) w a ≡ move_call w a
  move-call-as-before = move-call-same WithoutState move-without (rule_by X) (move-as-before X) w h

  pub run-call-as-before : (es : List ℕ) → run_call_by (rule_by X) w es ≡ run_call w es
  run-call-as-before = run-call-same WithoutState move-without (rule_by X) (move-as-before X) w h
