-- A run counts each of its entries once, as a move or as a refusal. Assumes nothing.
use Rattle.std.specs.Prelude.{◌≡◌, List, [], ◌∷◌, ℕ, ◌+◌, length}
use Rattle.std.proofs.Common.{arith}
use Rattle.atlite.specs.Base.{Result, done, refused}
use Rattle.atlite.specs.State.{State}
use Rattle.atlite.specs.Move.{AfterMove, move}
use Rattle.atlite.specs.Run.{AfterRun, begun, after_entry, run_from, run}

abbrev total : AfterRun → ℕ
total R = R.counts.moves + R.counts.refusals

after-total : (R : AfterRun) (r : Result AfterMove) → total (after_entry R r) ≡ total R + 1
unfolding after_entry
after-total R (done M) = omega arith
after-total R (refused n) = omega arith

total-from : (R : AfterRun) (es : List ℕ) → total (run_from R es) ≡ total R + length es
unfolding run_from
total-from R [] = omega arith
total-from R (a ∷ es) =
    let h = total-from (after_entry R (move R.state a)) es in
    let k = after-total R (move R.state a) in
    omega arith

pub run-counts : (σ : State) (es : List ℕ) → (run σ es).counts.moves + (run σ es).counts.refusals ≡ length es
unfolding run
run-counts σ es = let h = total-from (begun σ) es in omega arith
