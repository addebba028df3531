-- That a reader of positions meets a value where its words stand, with fuel for them. Assumes nothing.
use Rattle.std.specs.Prelude.{ℕ, ◌+◌, ◌≤◌, ◌≡◌, List, ◌++◌, length, drop}
use Rattle.atlite.specs.Term.{Term}
use Rattle.layout_laws.specs.Parse.{Got, got, parse_term}

-- a reader that gets a wherever the words xs stand, by fuel and position
abbrev pub Meets : {A : Type 0} → (ℕ → ℕ → Got A) → List ℕ → List ℕ → A → Type 0
Meets p w xs a = (n at : ℕ) (r : List ℕ) → length xs ≤ n → drop at w ≡ xs ++ r → p n at ≡ got a (at + length xs)

module _ (w : List ℕ) where
  abbrev pub MeetsTerm : List ℕ → Term → Type 0
  MeetsTerm xs e = Meets (λ n at. parse_term n w at) w xs e
