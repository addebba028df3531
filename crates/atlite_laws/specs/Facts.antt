-- Facts about the tests, lists and results of `Base` that laws everywhere use. Nothing here has to be believed. Assumes nothing.
use Rattle.std.specs.Prelude.{◌≡◌, Bool, ◌&&◌, ◌||◌, not, List, [], ◌∷◌, ◌++◌, ℕ, zero, suc, ◌≤◌, ◌<◌, length, get_or, eqb, if◌then◌else◌}
use Rattle.std.proofs.Math.Path.{refl}
use Rattle.std.proofs.Common.{sym, ap, ap₂, ◌∙◌, subst as transp, arith, eqb-true, eq-eqb}
use Rattle.std.proofs.Math.Bool.{true, false}
use Rattle.std.proofs.lemmas.Bool.{false≢true}
use Rattle.std.proofs.Math.Option.{Option, none, some}
use Rattle.std.proofs.Math.ListN.{get_elem?}
use Rattle.atlite.specs.Base.{Result, done, refused, ◌>>=◌, ◌>>◌, or_refuse, require, all, same_bytes}

-- ---- tests joined
pub and₂ : (a b : Bool) → (a && b) ≡ true → (a ≡ true) × (b ≡ true)
and₂ true b h = (refl, h)
and₂ false b h = absurd (false≢true h)

pub and₃ : (a b c : Bool) → (a && b && c) ≡ true → (a ≡ true) × (b ≡ true) × (c ≡ true)
and₃ a b c h = let r = and₂ (a && b) c h in let q = and₂ a b r.0 in (q.0, q.1, r.1)

pub and₄ : (a b c d : Bool) → (a && b && c && d) ≡ true → (a ≡ true) × (b ≡ true) × (c ≡ true) × (d ≡ true)
and₄ a b c d h = let r = and₂ (a && b && c) d h in let q = and₃ a b c r.0 in (q.0, q.1, q.2, r.1)

pub and₅ : (a b c d e : Bool) → (a && b && c && d && e) ≡ true → (a ≡ true) × (b ≡ true) × (c ≡ true) × (d ≡ true) × (e ≡ true)
and₅ a b c d e h = let r = and₂ (a && b && c && d) e h in let q = and₄ a b c d r.0 in (q.0, q.1, q.2, q.3, r.1)

pub both₂ : {a b : Bool} → a ≡ true → b ≡ true → (a && b) ≡ true
both₂ h k = rw h k

pub both₃ : {a b c : Bool} → a ≡ true → b ≡ true → c ≡ true → (a && b && c) ≡ true
both₃ h k l = both₂ (both₂ h k) l

pub both₄ : {a b c d : Bool} → a ≡ true → b ≡ true → c ≡ true → d ≡ true → (a && b && c && d) ≡ true
both₄ h k l m = both₂ (both₃ h k l) m

pub not-true : (b : Bool) → not b ≡ true → b ≡ false
not-true true h = absurd (false≢true h)
not-true false h = refl

pub or-false : (a b : Bool) → (a || b) ≡ false → (a ≡ false) × (b ≡ false)
or-false true b h = absurd (false≢true (sym h))
or-false false b h = (refl, h)

pub or_right : (a : Bool) {b : Bool} → b ≡ true → (a || b) ≡ true
or_right true h = refl
or_right false h = h

pub eqb_same : (n : ℕ) → eqb n n ≡ true
eqb_same n = eq-eqb n n refl

-- ---- lists
pub tests-append : {A : Type 0} (p : A → Bool) (l r : List A) → all p l ≡ true → all p r ≡ true → all p (l ++ r) ≡ true
unfolding all
tests-append p [] r h k = k
tests-append p (x ∷ l) r h k = let q = and₂ (p x) (all p l) h in both₂ q.0 (tests-append p l r q.1 k)

pub same_true : (v w : List ℕ) → same_bytes v w ≡ true → v ≡ w
unfolding same_bytes
same_true [] [] h = refl
same_true [] (c ∷ w) h = absurd (false≢true h)
same_true (b ∷ v) [] h = absurd (false≢true h)
same_true (b ∷ v) (c ∷ w) h =
    let p = and₂ (eqb b c) (same_bytes v w) h in
    ap₂ {C = List ℕ} (λ x y. x ∷ y) (eqb-true b c p.0) (same_true v w p.1)

pub same_refl : (w : List ℕ) → same_bytes w w ≡ true
unfolding same_bytes
same_refl [] = refl
same_refl (b ∷ w) = both₂ (eqb_same b) (same_refl w)

pub same-false-sym : (v w : List ℕ) → same_bytes v w ≡ false → same_bytes w v ≡ false
same-false-sym v w h = go (same_bytes w v) refl
  where
    go : (b : Bool) → same_bytes w v ≡ b → b ≡ false
    go true e = absurd (false≢true (sym h ∙ (let p = same_true w v e in rw p (same_refl v))))
    go false e = refl

pub none-some : {X : Type 0} {x : X} → ◌≡◌ {A = Option X} none (some x) → ⊥
none-some {x} h = let z : ◌≡◌ {A = ℕ} 0 1 = cc in omega arith

-- reading a list at a place
pub get-there : {X : Type 0} (l : List X) (n : ℕ) (x d : X) → get_elem? l n ≡ some x → (n < length l) × (get_or l n d ≡ x)
get-there [] n x d h = absurd (none-some h)
get-there (y ∷ l) zero x d h = (omega arith, cc)
get-there (y ∷ l) (suc n) x d h = let r = get-there l n x d h in (omega arith, r.1)

pub get-below : {X : Type 0} (l : List X) (n : ℕ) (d : X) → n < length l → get_elem? l n ≡ some (get_or l n d)
get-below [] n d h = absurd (omega arith)
get-below (y ∷ l) zero d h = refl
get-below (y ∷ l) (suc n) d h = get-below l n d (omega arith)

pub get_none : {X : Type 0} (l : List X) (n : ℕ) (d : X) → get_elem? l n ≡ none → get_or l n d ≡ d
get_none [] n d h = refl
get_none (x ∷ l) zero d h = absurd (none-some (sym h))
get_none (x ∷ l) (suc n) d h = get_none l n d h

pub get-past : {X : Type 0} (l : List X) (n : ℕ) → length l ≤ n → get_elem? l n ≡ none
get-past [] n h = refl
get-past (x ∷ l) zero h = absurd (omega arith)
get-past (x ∷ l) (suc n) h = get-past l n (omega arith)

-- ---- results
pub refused-done : {X : Type 0} {n : ℕ} {x : X} → ◌≡◌ {A = Result X} (refused n) (done x) → ⊥
refused-done {n} {x} h = let z : ◌≡◌ {A = ℕ} 0 1 = cc in omega arith

-- A property of what a result is, where it is no refusal; and how it goes through a `do`, what each line gave being at hand in the
-- next ones.
pub data Every {A : Type 0} (Q : A → Type 0) : Result A → Type 0 where
  holds : {a : A} → Q a → Every Q (done a)
  nothing : {n : ℕ} → Every Q (refused n)

pub every-done : {A : Type 0} {Q : A → Type 0} {r : Result A} {x : A} → Every Q r → r ≡ done x → Q x
every-done {Q} {x} (holds {a} h) e = let u : a ≡ x = cc in transp Q u h
every-done nothing e = absurd (refused-done e)

-- what is so of whatever a result may be
pub every_of : {A : Type 0} {Q : A → Type 0} (r : Result A) → ((x : A) → r ≡ done x → Q x) → Every Q r
every_of (done x) k = holds (k x refl)
every_of (refused n) k = nothing

pub every-weaken : {A : Type 0} {P Q : A → Type 0} {r : Result A} → Every P r → ((a : A) → P a → Q a) → Every Q r
every-weaken (holds {a} p) k = holds (k a p)
every-weaken nothing k = nothing

module _ {B : Type 0} {Q : B → Type 0} where
  pub given : {A : Type 0} (r : Result A) {f : A → Result B} → ((a : A) → r ≡ done a → Every Q (f a)) → Every Q (r >>= f)
  given (done a) k = k a refl
  given (refused n) k = nothing

  pub every_bind : {A : Type 0} {P : A → Type 0} {r : Result A} {f : A → Result B} → Every P r → ((a : A) → P a → Every Q (f a)) → Every Q (r >>= f)
  every_bind (holds {a} p) k = k a p
  every_bind nothing k = nothing

  pub checked : (n : ℕ) (b : Bool) {r : Result B} → (b ≡ true → Every Q r) → Every Q (require n b >> r)
  unfolding require
  checked n true k = k refl
  checked n false k = nothing

  pub every-found : {A : Type 0} (n : ℕ) (o : Option A) {f : A → Result B} → ((a : A) → o ≡ some a → Every Q (f a))
      → Every Q (or_refuse n o >>= f)
  unfolding or_refuse
  every-found n none k = nothing
  every-found n (some a) k = k a refl

  pub every-if : (b : Bool) {r u : Result B} → (b ≡ true → Every Q r) → (b ≡ false → Every Q u) → Every Q (if b then r else u)
  every-if true h k = h refl
  every-if false h k = k refl

  pub every-test : (b : Bool) {r u : Result B} → (b ≡ true → Every Q r) → (b ≡ false → Every Q u)
      → Every Q (elim b as (λ x. Result B) [ true ↦ r | false ↦ u ])
  every-test true h k = h refl
  every-test false h k = k refl

  pub every-option : {A : Type 0} (o : Option A) {r : Result B} {f : A → Result B} → (o ≡ none → Every Q r)
      → ((a : A) → o ≡ some a → Every Q (f a))
      → Every Q (elim o as (λ x. Result B) [ none ↦ r | some a ↦ f a ])
  every-option none h k = h refl
  every-option (some a) h k = k a refl

pub found : {X : Type 0} (n : ℕ) (o : Option X) (x : X) → or_refuse n o ≡ done x → o ≡ some x
unfolding or_refuse
found n none x h = absurd (refused-done h)
found n (some y) x h = let e : y ≡ x = cc in ap some e
