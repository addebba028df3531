-- A header's signature kept in a number, and whether the parameters in one differ. By cases on how many there are. Assumes nothing.
use Rattle.std.specs.Prelude.{ℕ, ◌+◌, ◌*◌, ◌/◌, ◌%◌, ◌≤◌, ◌<◌, ◌≡◌, refl, Bool, true, false, cond, ◌&&◌, List, [], ◌∷◌, eqb, length, if◌then◌else◌}
use Rattle.std.proofs.Common.{sym, ap, ◌∙◌, arith, ne_eqb, le-ltb}
use Rattle.std.proofs.Math.Bool.{and-true}
use Rattle.atlite.specs.Base.{distinct, any, distinct_by}
use Rattle.layout.specs.Numbers.{field_kind}
use Rattle.layout_laws.specs.PackLaws.{Each}
use Rattle.layout_laws.specs.LastThree.{not-if, kept, kept-noted}
use Rattle.words.specs.Wide.{wide_kinds, wide, pair, wide_params, wide_limit, wide_third, wide_signed}
use Rattle.checks.specs.Names.{Name}
use Rattle.checks.specs.TreeFits.{kind-wide, payload-wide}
use Rattle.checks.specs.Single.{apart, noted}

-- a signature's number fits
abbrev pub Small : ℕ → Type 0
Small x = x < wide_signed

-- a header that is noted
pub noted-kept : (k p x : ℕ) (ns : List ℕ) → field_kind ≤ k → k < wide_kinds → length ns ≤ 3 → Each Small ns → p % wide_signed ≡ x → noted (wide k p) (kept wide_signed ns) ≡ kept wide_signed (x ∷ ns)
unfolding noted
noted-kept k p x ns hk lk l h e = rw (kind-wide k p lk, payload-wide k p lk, le-ltb k field_kind hk, e) (kept-noted wide_signed (omega arith) x ns l h)

-- ---- parameters
module _ (a b c : ℕ) (ha : a < wide_limit) (hb : b < wide_limit) (hc : c < wide_limit) where
  apart-digits : apart (pair a (pair b c) % wide_limit) (pair a (pair b c) / wide_limit % wide_limit) (pair a (pair b c) / wide_third % wide_limit) ≡ apart a b c
  apart-digits =
      let d : pair a (pair b c) % wide_limit ≡ a = omega arith in
      let e : pair a (pair b c) / wide_limit ≡ pair b c = omega arith in
      let f : pair b c % wide_limit ≡ b = omega arith in
      let g : pair a (pair b c) / wide_third ≡ c = omega arith in
      let i : c % wide_limit ≡ c = omega arith in
      rw (d, e, f, g, i)

pub apart-params : (w : ℕ) (xs : List ℕ) → w ≤ 4000 → length xs ≤ 3 → Each (Name w) xs
    → apart (wide_params xs % wide_limit) (wide_params xs / wide_limit % wide_limit) (wide_params xs / wide_third % wide_limit) ≡ distinct xs
unfolding wide_params apart distinct_by any
apart-params w [] l h a = refl
apart-params w (x ∷ []) l h a = apart-digits x 0 0 (omega (arith, a.0.below)) (omega arith) (omega arith)
apart-params w (x ∷ y ∷ []) l h a =
    apart-digits x y 0 (omega (arith, a.0.below)) (omega (arith, a.1.0.below)) (omega arith)
    ∙ rw (ne_eqb y 0 (λ e. omega (arith, a.1.0.above)), not-if (eqb x y) false) (sym (and-true _))
apart-params w (x ∷ y ∷ z ∷ []) l h a =
    let last : z + wide_limit * 0 ≡ z = omega arith in
    ap (λ k. apart (pair x (pair y k) % wide_limit) (pair x (pair y k) / wide_limit % wide_limit) (pair x (pair y k) / wide_third % wide_limit)) last
    ∙ apart-digits x y z (omega (arith, a.0.below)) (omega (arith, a.1.0.below)) (omega (arith, a.1.1.0.below))
    ∙ rw (ne_eqb y 0 (λ e. omega (arith, a.1.0.above)), ne_eqb z 0 (λ e. omega (arith, a.1.1.0.above)), not-if (eqb x y) (if eqb x z then true else false), not-if (eqb x z) false, not-if (eqb y z) false)
    (turn (eqb x y) (eqb x z) (eqb y z))
  where
    turn : (p q r : Bool) → cond p false (cond q false (cond r false true)) ≡ cond p false (cond q false true) && (cond r false true && true)
    turn true q r = refl
    turn false true r = refl
    turn false false true = refl
    turn false false false = refl
apart-params w (x ∷ y ∷ z ∷ u ∷ xs) l h a = absurd (omega arith)
