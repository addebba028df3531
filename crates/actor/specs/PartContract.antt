-- What is to be decided of a part, and what the code has to know of where an expression ends. Assumes nothing.
use Rattle.std.specs.Prelude.{ℕ, ◌≤◌, ◌≡◌, Bool, true, Option, Some, List, [], length, get_or}
use Rattle.atlite.specs.Term.{Term}
use Rattle.atlite.specs.State.{Actor}
use Rattle.atlite.specs.Limits.{full, within_actor}
use Rattle.atlite.specs.Valid.{WellFormed, IsActor}
use Rattle.layout.specs.Numbers.{expr_size, part_size}
use Rattle.layout.specs.Layout.{encode_actor}
use Rattle.layout_laws.specs.Parts.{ActorFits}
use Rattle.layout_laws.specs.ParseSound.{TermAt}
use Rattle.term_words.specs.Kinds.{allowed, future_by}

-- a part whose counts are within their limits
pub record Heads (w : List ℕ) : Type 0 where
  pub size : length w ≡ part_size
  pub made : get_or w 1 0 ≤ 32
  pub copied : get_or w 2 0 ≤ 16
  pub inbox : get_or w 3 0 ≤ 16
  pub waiting : get_or w 4 0 ≤ 16
  pub expr : get_or w 5 0 ≤ expr_size

-- r tells whether P holds
unfoldable pub Decides : Type 0 → Bool → Type 0
Decides P r = (r ≡ true → P) × (P → r ≡ true)

-- The words w are the part of an actor a that holds the conditions of a state with W words and entities of the kinds K.
unfoldable pub IsPart : List ℕ → ℕ → ℕ → List ℕ → Type 0
IsPart K a W w =
    (A : Actor) × (encode_actor A ≡ w) × (within_actor full A ≡ true) × IsActor W (λ v. allowed K a v ≡ true) (future_by K) a A × ActorFits A

-- It is told where the expression ends that the region R begins with.
pub record Ends (K : List ℕ) (a W : ℕ) (R : List ℕ) (o : Option ℕ) : Type 0 where
  pub sound : (e : ℕ) → o ≡ Some e → (t : Term) × TermAt R 0 t e × WellFormed t W (λ v. allowed K a v ≡ true) []
  pub complete : (t : Term) (i : ℕ) → TermAt R 0 t i → WellFormed t W (λ v. allowed K a v ≡ true) [] → o ≡ Some i
