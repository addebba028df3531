-- Request P2, choosing: a script that has neither of the two operators begins in a state that has neither, so that its runs are what they are by any
-- rules of the two. Assumes nothing.
use Rattle.std.specs.Prelude.{ℕ, ◌≡◌, refl, List}
use Rattle.std.proofs.Common.{◌∙◌}
use Rattle.atlite.specs.Base.{done}
use Rattle.atlite.specs.Term.{Op, plus, percent, same, choose, get, set, call, send, written}
use Rattle.atlite.specs.State.{State}
use Rattle.atlite.specs.Table.{Table}
use Rattle.atlite.specs.Load.{load}
use Rattle.atlite.specs.Run.{run}
use Rattle.changes.specs.MoveBy.{run_by}
use Rattle.changes.specs.Choosing.{TwoRules, is_new, rule_by}
use Rattle.changes.specs.Throughout.{AnyMethods}
use Rattle.changes.specs.Without.{Neither}
use Rattle.changes.specs.WithoutMoves.{WithoutState}
use Rattle.changes.specs.WithoutLoads.{is_new_written, NeitherWritten, WithoutTable}
use Rattle.changes.proofs.ThroughoutLoads.{load-throughout}
use Rattle.changes.proofs.Without.{neither-formed}
use Rattle.changes.proofs.WithoutMoves.{run-as-before}

-- ---- loading
-- an operator that is kept is what it was
kept_new : (o : Op ℕ) → is_new (written o) ≡ is_new o
unfolding is_new
kept_new plus = refl
kept_new percent = refl
kept_new same = refl
kept_new choose = refl
kept_new (get f) = refl
kept_new (set f) = refl
kept_new (call m) = refl
kept_new (send m) = refl

-- A table without the two loads to a state without them,
pub load-without : (T : Table) (σ : State) → WithoutTable T → load T ≡ done σ → WithoutState σ
unfolding is_new_written
load-without = load-throughout Neither AnyMethods neither-formed NeitherWritten (λ o h. kept_new o ∙ h) refl

-- and from there it runs as by any rules of the two.
pub script-as-before : (X : TwoRules) (T : Table) (σ : State) (es : List ℕ) → WithoutTable T → load T ≡ done σ → run_by (rule_by X) σ es ≡ run σ es
script-as-before X T σ es h e = run-as-before X σ es (load-without T σ h e)
