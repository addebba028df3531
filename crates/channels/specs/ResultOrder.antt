-- Two results of which the second goes where the first does: for rules written with `do`. Assumes nothing.
use Rattle.std.specs.Prelude.{◌≡◌, Bool, ℕ, if◌then◌else◌}
use Rattle.std.proofs.Math.Path.{refl}
use Rattle.std.proofs.Math.Bool.{true, false}
use Rattle.std.proofs.lemmas.Bool.{false≢true}
use Rattle.atlite.specs.Base.{Result, done, refused, ◌>>=◌, ◌>>◌, require}

-- where the first is a value, the second is one in the relation R to it; nothing is said where the first is refused
pub data Follows {A : Type 0} (R : A → A → Type 0) : Result A → Result A → Type 0 where
  both : {a b : A} → R a b → Follows R (done a) (done b)
  refuses : {n : ℕ} {r : Result A} → Follows R (refused n) r

-- the second gives the same
abbrev pub Kept : {A : Type 0} → Result A → Result A → Type 0
Kept = Follows (λ a b. b ≡ a)

pub kept : {A : Type 0} (r : Result A) → Kept r r
kept (done a) = both refl
kept (refused n) = refuses

module _ {A B : Type 0} {Q : B → B → Type 0} where
  pub follows-bind : {R : A → A → Type 0} {r r' : Result A} {f f' : A → Result B} → Follows R r r'
      → ((a b : A) → R a b → Follows Q (f a) (f' b)) → Follows Q (r >>= f) (r' >>= f')
  follows-bind (both {a} {b} h) k = k a b h
  follows-bind refuses k = refuses

  pub kept-bind : {r r' : Result A} {f f' : A → Result B} → Kept r r' → ((a : A) → Follows Q (f a) (f' a)) → Follows Q (r >>= f) (r' >>= f')
  kept-bind {f} {f'} h k = follows-bind h (λ a b e. rw e (k a))

  pub same-bind : (r : Result A) {f f' : A → Result B} → ((a : A) → Follows Q (f a) (f' a)) → Follows Q (r >>= f) (r >>= f')
  same-bind (done a) k = k a
  same-bind (refused n) k = refuses

module _ {B : Type 0} {Q : B → B → Type 0} where
  pub require-bind : (n : ℕ) (b b' : Bool) {r r' : Result B} → (b ≡ true → b' ≡ true) → (b ≡ true → Follows Q r r')
      → Follows Q (require n b >> r) (require n b' >> r')
  unfolding require
  require-bind n true true h k = k refl
  require-bind n true false h k = absurd (false≢true (h refl))
  require-bind n false b' h k = refuses

  pub follows_if : (b : Bool) {r r' u u' : Result B} → Follows Q r r' → Follows Q u u' → Follows Q (if b then r else u) (if b then r' else u')
  follows_if true h k = h
  follows_if false h k = k
