-- What a done result says of the steps that it was made by: each of them was done. Assumes nothing.
use Rattle.std.specs.Prelude.{ℕ, ◌≡◌, refl, Bool, true, false}
use Rattle.atlite.specs.Base.{Result, done, refused, ◌>>=◌, ◌>>◌, require}
use Rattle.atlite_laws.specs.Facts.{refused-done}

pub done-same : {A : Type 0} (a b : A) → done a ≡ done b → a ≡ b
done-same a b e = cc

pub refused-same : {A : Type 0} (m n : ℕ) → ◌≡◌ {A = Result A} (refused m) (refused n) → m ≡ n
refused-same m n e = cc

pub bind_done : {A B : Type 0} (r : Result A) (f : A → Result B) (b : B) → (r >>= f) ≡ done b → (a : A) × (r ≡ done a) × (f a ≡ done b)
bind_done (done a) f b e = (a, refl, e)
bind_done (refused n) f b e = absurd (refused-done e)

pub then-done : {A : Type 0} (r : Result (Unit {0})) (s : Result A) (a : A) → (r >> s) ≡ done a → (r ≡ done tt) × (s ≡ done a)
then-done (done u) s a e = (refl, e)
then-done (refused n) s a e = absurd (refused-done e)

pub require-done : (n : ℕ) (b : Bool) → require n b ≡ done tt → b ≡ true
unfolding require
require-done n true e = refl
require-done n false e = absurd (refused-done e)
