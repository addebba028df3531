-- The names of a script with w words: from 7, which is `apply`, to below 8 + w; 0, which stands for no name, is none. Assumes nothing.
use Rattle.std.specs.Prelude.{ℕ, ◌+◌, ◌≤◌, ◌<◌, ◌≡◌, Bool, true, false, ◌||◌, List, [], ◌∷◌, eqb, leb, ltb}
use Rattle.std.proofs.Common.{arith, leb-true, ltb-true, eqb-true}
use Rattle.atlite.specs.Base.{all}
use Rattle.atlite.specs.Term.{this, apply, first_word}
use Rattle.atlite.specs.Valid.{is_name}
use Rattle.atlite_laws.specs.Facts.{and₂}
use Rattle.layout_laws.specs.PackLaws.{Each}

pub record Name (w x : ℕ) : Type 0 where
  pub above : 7 ≤ x
  pub below : x < 8 + w

pub named : (w x : ℕ) → is_name w x ≡ true → Name w x
unfolding is_name
named w x h =
    let b = and₂ (leb apply x) (ltb x (first_word + w)) h in
    record { above = leb-true 7 x b.0; below = ltb-true x (8 + w) b.1 }

-- a variable may also be `this`, the name 0
pub variable : (w x : ℕ) → (eqb x this || is_name w x) ≡ true → x < 8 + w
variable w x h = go (eqb x this) refl' h
  where
    refl' : eqb x this ≡ eqb x this
    refl' = λ i. eqb x this

    go : (b : Bool) → eqb x this ≡ b → (b || is_name w x) ≡ true → x < 8 + w
    go true e h = omega (arith, eqb-true x 0 e)
    go false e h = (named w x h).below

pub all_named : (w : ℕ) (xs : List ℕ) → all (is_name w) xs ≡ true → Each (Name w) xs
unfolding all
all_named w [] h = tt
all_named w (x ∷ xs) h = let b = and₂ (is_name w x) (all (is_name w) xs) h in (named w x b.0, all_named w xs b.1)
