-- Request P3, one name with several counts: the condition on lists of methods as it was, and the states by it. Assumes nothing.
use Rattle.std.specs.Prelude.{ℕ, ◌≡◌, true, List, eqb}
use Rattle.atlite.specs.Term.{Signature}
use Rattle.atlite.specs.State.{State}
use Rattle.atlite.specs.Valid.{is_name, few_distinct}
use Rattle.changes.specs.NamesOnce.{names}
use Rattle.changes.specs.StateBy.{IsStateBy}

-- ---- the condition before the request: at most 4 methods, no name twice, and each a name
abbrev pub Former : ℕ → List Signature → Type 0
Former w l = few_distinct 4 eqb (is_name w) (names l) ≡ true

abbrev pub FormerState : State → Type 0
FormerState σ = IsStateBy Former σ
