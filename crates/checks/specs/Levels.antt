-- The list of levels stands for the words in scope: a name but `this` is one of them just where its level is above the base, and no level
-- is above the present one. Binding names puts them in front; a new base leaves none. Assumes nothing.
use Rattle.std.specs.Prelude.{ℕ, suc, ◌+◌, ◌*◌, ◌/◌, ◌%◌, ◌≤◌, ◌<◌, ◌≡◌, refl, Bool, true, false, List, [], ◌∷◌, ◌++◌, eqb, ltb, length, get_or, set, replicate, if◌then◌else◌}
use Rattle.std.proofs.Common.{ap, ◌∙◌, ne_eqb, lt-ltb, le-ltb, eqb-true, length-set, get_or-set_same, get_or-set_other}
use native.Mathlib.Omega.{arith}
use Rattle.std.proofs.lemmas.Bool.{eqb-false}
use Rattle.std.proofs.lemmas.List.{length-replicate}
use Rattle.atlite.specs.Base.{member, any}
use Rattle.layout_laws.specs.PackLaws.{Each}
use Rattle.words.specs.Wide.{pair, wide_params, wide_limit, wide_third}
use Rattle.checks.specs.Names.{Name}
use Rattle.checks.specs.Bound.{bind_all}

pub record Levels (L : List ℕ) (b l : ℕ) (xs : List ℕ) : Type 0 where
  pub long : length L ≡ 4096
  pub under : b ≤ l
  pub low : (x : ℕ) → get_or L x 0 ≤ l
  pub right : (x : ℕ) → 0 < x → ltb b (get_or L x 0) ≡ member x xs

-- ---- at the start
none-bound : (n x : ℕ) → get_or {A = ℕ} (replicate n 0) x 0 ≡ 0
none-bound ℕ.zero x = refl
none-bound (suc n) ℕ.zero = refl
none-bound (suc n) (suc x) = none-bound n x

pub at-start : (L : List ℕ) → L ≡ replicate 4096 0 → Levels L 0 0 []
unfolding any
at-start L e = record {
  long = ap length e ∙ length-replicate {A = ℕ} 4096 0;
  under = omega arith;
  low = λ x. omega (arith, ap (λ M. get_or M x 0) e, none-bound 4096 x);
  right = λ x h. le-ltb 0 (get_or L x 0) (omega (arith, ap (λ M. get_or M x 0) e, none-bound 4096 x));
}

-- ---- a new base
pub hidden : (L : List ℕ) (b l : ℕ) (xs : List ℕ) → Levels L b l xs → Levels L l l []
unfolding any
hidden L b l xs h = record { long = h.long; under = omega arith; low = h.low; right = λ x p. le-ltb l (get_or L x 0) (h.low x) }

-- ---- one name
pub bound-one : (L : List ℕ) (b l : ℕ) (xs : List ℕ) (y v : ℕ) → y < wide_limit → b < v → l ≤ v → Levels L b l xs → Levels (set L y v) b v (y ∷ xs)
unfolding any
bound-one L b l xs y v hy hb hl h = record {
  long = length-set L y v ∙ h.long;
  under = omega arith;
  low = λ x. low-at x (eqb x y) refl;
  right = λ x p. right-at x p (eqb x y) refl;
}
  where
    here : get_or (set L y v) y 0 ≡ v
    here = get_or-set_same L y v 0 (omega (arith, h.long))

    low-at : (x : ℕ) (t : Bool) → eqb x y ≡ t → get_or (set L y v) x 0 ≤ v
    low-at x true e = let q : x ≡ y = eqb-true x y e in rw q (omega (arith, here))
    low-at x false e = rw (get_or-set_other L y x v 0 (eqb-false x y e)) (omega (arith, h.low x))

    right-at : (x : ℕ) → 0 < x → (t : Bool) → eqb x y ≡ t → ltb b (get_or (set L y v) x 0) ≡ (if eqb x y then true else member x xs)
    right-at x p true e = let q : x ≡ y = eqb-true x y e in rw e (ap (λ z. ltb b (get_or (set L y v) z 0)) q ∙ ap (ltb b) here ∙ lt-ltb b v hb)
    right-at x p false e = rw (e, get_or-set_other L y x v 0 (eqb-false x y e)) (h.right x p)

-- the same names in scope, `this` aside
same-scope : (L : List ℕ) (b l : ℕ) (xs ys : List ℕ) → Levels L b l xs → ((x : ℕ) → 0 < x → member x xs ≡ member x ys) → Levels L b l ys
same-scope L b l xs ys h s = record { long = h.long; under = h.under; low = h.low; right = λ x p. h.right x p ∙ s x p }

-- ---- three names
module _ (L : List ℕ) (b l : ℕ) (xs : List ℕ) (x y z : ℕ) (hx : x < wide_limit) (hy : y < wide_limit) (hz : z < wide_limit) (h : Levels L b l xs) where
  three : Levels (bind_all L (pair x (pair y z)) (l + 1)) b (l + 1) (x ∷ y ∷ z ∷ xs)
  unfolding bind_all
  three =
      let p : pair x (pair y z) % wide_limit ≡ x = omega arith in
      let q : pair x (pair y z) / wide_limit ≡ pair y z = omega arith in
      let r : pair y z % wide_limit ≡ y = omega arith in
      let s : pair x (pair y z) / wide_third ≡ z = omega arith in
      let t : z % wide_limit ≡ z = omega arith in
      rw (p, q, r, s, t)
      (bound-one (set (set L z (l + 1)) y (l + 1)) b (l + 1) (y ∷ z ∷ xs) x (l + 1) hx (omega (arith, h.under)) (omega arith)
      (bound-one (set L z (l + 1)) b (l + 1) (z ∷ xs) y (l + 1) hy (omega (arith, h.under)) (omega arith)
      (bound-one L b l xs z (l + 1) hz (omega (arith, h.under)) (omega arith) h)))

-- the names that a word binds
pub bound_all_lem : (w : ℕ) (ys : List ℕ) (L : List ℕ) (b l : ℕ) (xs : List ℕ) → w ≤ 4000 → length ys ≤ 3 → Each (Name w) ys → Levels L b l xs → Levels (bind_all L (wide_params ys) (l + 1)) b (l + 1) (ys ++ xs)
unfolding wide_params any
bound_all_lem w [] L b l xs k n a h =
    same-scope _ b (l + 1) (0 ∷ 0 ∷ 0 ∷ xs) xs (three L b l xs 0 0 0 (omega arith) (omega arith) (omega arith) h) (λ u p. rw (ne_eqb u 0 (λ e. omega arith)))
bound_all_lem w (x ∷ []) L b l xs k n a h =
    same-scope _ b (l + 1) (x ∷ 0 ∷ 0 ∷ xs) (x ∷ xs) (three L b l xs x 0 0 (omega (arith, a.0.below)) (omega arith) (omega arith) h) (λ u p. rw (ne_eqb u 0 (λ e. omega arith)))
bound_all_lem w (x ∷ y ∷ []) L b l xs k n a h =
    same-scope _ b (l + 1) (x ∷ y ∷ 0 ∷ xs) (x ∷ y ∷ xs) (three L b l xs x y 0 (omega (arith, a.0.below)) (omega (arith, a.1.0.below)) (omega arith) h) (λ u p. rw (ne_eqb u 0 (λ e. omega arith)))
bound_all_lem w (x ∷ y ∷ z ∷ []) L b l xs k n a h =
    let last : z + wide_limit * 0 ≡ z = omega arith in
    rw last (three L b l xs x y z (omega (arith, a.0.below)) (omega (arith, a.1.0.below)) (omega (arith, a.1.1.0.below)) h)
bound_all_lem w (x ∷ y ∷ z ∷ u ∷ ys) L b l xs k n a h = absurd (omega arith)
