-- Numbers: their digits from the first to the last, no zero before others, and in range. Assumes nothing.
use Rattle.std.specs.Prelude.{◌≡◌, Bool, true, false, ◌&&◌, not, eqb, leb, length, get_or, drop, Some, None}
use Rattle.std.proofs.Math.Path.{refl, sym, ap}
use Rattle.std.proofs.Common.{◌∙◌, lt_of_lt_of_le, arith, rules, Fits, drop-cons, drop_of_length-le}
use mathlib.Core.List.{[], ◌∷◌}
use Prim.Native.Nat.{ℕ, suc, ◌+◌, ◌-◌, ◌*◌, ◌≤◌, ◌<◌}
use Rattle.std.proofs.Math.Nat.{pow-suc, pow-le-pow_right}
use Rattle.std.proofs.Math.Numerals.{add-one}
use borrow.Author.Tests.{leb-true, le-leb, lt-leb, ne_eqb}
use Rattle.std.specs.Int.{w64}
use Rattle.atlite.specs.Base.{all}
use Rattle.atlite.specs.Lexicon.{Bytes, is_digit, is_number, decimal}
use Rattle.atlite_laws.specs.Facts.{and₂}
use Rattle.atlite.specs.Term.{top}
use Rattle.lexemes.specs.Atoms.{Digits, NumberIs, Counted}

module _ (w : Bytes) where
  pub counted_none : Counted w 0 0
  counted_none = record { digits = refl; is = refl; fits = omega arith }

  module _ (i n : ℕ) (p : Counted w i n) where
    small : length w ≤ 8 → i < length w → n < 10000000
    small h k = lt_of_lt_of_le p.fits (pow-le-pow_right {n = 10} (omega arith) {j = 7} (omega arith))

    pub ten-fits : length w ≤ 8 → i < length w → Fits w64 (n * 10)
    ten-fits h k = let l = small h k in record { fits = omega arith }

    pub sum_fits : (d : ℕ) → length w ≤ 8 → i < length w → d < 256 → Fits w64 (n * 10 + d)
    sum_fits d h k q = let l = small h k in record { fits = omega arith }

    next : i < length w → drop i w ≡ get_or w i 0 ∷ drop (i + 1) w
    next k = rw (add-one i) (drop-cons w i 0 k)

    pub counted-more : (r : Bool) (d : ℕ) → i < length w → r ≡ is_digit (get_or w i 0) → r ≡ true → d ≡ get_or w i 0 - 48 → Counted w (i + 1) (n * 10 + d)
    unfolding all decimal is_digit
    counted-more r d k a b q =
        let z = sym a ∙ b in
        let m = leb-true (get_or w i 0) 57 (and₂ (leb 48 (get_or w i 0)) (leb (get_or w i 0) 57) z).1 in
        let u : i + 1 ≡ suc i = omega arith in
        let f = p.fits in
        record {
          digits = p.digits ∙ ap (all is_digit) (next k) ∙ rw z;
          is = p.is ∙ ap (decimal n) (next k) ∙ ap (λ (m : ℕ). decimal (n * 10 + m) (drop (i + 1) w)) (sym q);
          fits = rw (u, pow-suc 10 i) (omega arith);
        }

    pub digits-not : i < length w → is_digit (get_or w i 0) ≡ false → Digits w None
    unfolding Digits all
    digits-not k z = p.digits ∙ ap (all is_digit) (next k) ∙ rw z

  pub digits-all : (n : ℕ) → Counted w (length w) n → Digits w (Some n)
  unfolding Digits all decimal
  digits-all n p = let z = drop_of_length-le w {i = length w} (omega arith) in (p.digits ∙ rw z, sym (p.is ∙ rw z))

pub digit-least : (b : ℕ) → is_digit b ≡ true → 48 ≤ b
unfolding is_digit
digit-least b e = leb-true 48 b (and₂ (leb 48 b) (leb b 57) e).0

-- ---- the other conditions
number-test : (w : Bytes) → 0 < length w → length w ≤ 8 → (1 < length w → get_or w 0 0 ≡ 48 → ⊥)
    → is_number w ≡ (all is_digit w && leb (decimal 0 w) top)
unfolding is_number decimal all is_digit
number-test [] h k n = absurd (omega arith)
number-test (b ∷ []) h k n = go (is_digit b) refl
  where
    go : (c : Bool) → is_digit b ≡ c → is_digit b ≡ (is_digit b && true && leb (0 * 10 + (b - 48)) top)
    go true e =
        let m = leb-true b 57 (and₂ (leb 48 b) (leb b 57) e).1 in
        rw (e, le-leb (0 * 10 + (b - 48)) top (omega arith))
    go false e = rw e
number-test (b ∷ c ∷ w) h k n =
    rw (ne_eqb b 48 (n (omega arith)), le-leb (length w) 6 (omega arith)) (go (all is_digit (b ∷ c ∷ w)))
  where
    go : (x : Bool) → (x && true && true && leb (decimal 0 (b ∷ c ∷ w)) top) ≡ (x && leb (decimal 0 (b ∷ c ∷ w)) top)
    go true = refl
    go false = refl

number-none : is_number [] ≡ false
unfolding is_number
number-none = refl

number-wide : (w : Bytes) → 8 < length w → is_number w ≡ false
unfolding is_number
number-wide [] h = absurd (omega arith)
number-wide (b ∷ []) h = absurd (omega arith)
number-wide (b ∷ c ∷ w) h = rw (lt-leb (length w) 6 (omega arith)) (go (all is_digit (b ∷ c ∷ w) && not (eqb b 48)) _)
  where
    go : (x y : Bool) → (x && false && y) ≡ false
    go true y = refl
    go false y = refl

number-zeros : (c : ℕ) (w : Bytes) → is_number (48 ∷ c ∷ w) ≡ false
unfolding is_number
number-zeros c w = go (all is_digit (48 ∷ c ∷ w)) _ _
  where
    go : (x y z : Bool) → (x && false && y && z) ≡ false
    go true y z = refl
    go false y z = refl

module _ (w : Bytes) where
  pub no_number : length w ≡ 0 → NumberIs w None
  unfolding NumberIs
  no_number k = go w k
    where
      go : (w : Bytes) → length w ≡ 0 → is_number w ≡ false
      go [] k = number-none
      go (b ∷ w) k = absurd (omega arith)

  pub long-number : 8 < length w → NumberIs w None
  unfolding NumberIs
  long-number k = number-wide w k

  pub zeros-number : 1 < length w → get_or w 0 0 ≡ 48 → NumberIs w None
  unfolding NumberIs
  zeros-number k z = go w k z
    where
      go : (w : Bytes) → 1 < length w → get_or w 0 0 ≡ 48 → is_number w ≡ false
      go [] k z = absurd (omega arith)
      go (b ∷ []) k z = absurd (omega arith)
      go (b ∷ c ∷ w) k z = rw z (number-zeros c w)

  module _ (n : 0 < length w) (k : length w ≤ 8) (z : 1 < length w → get_or w 0 0 ≡ 48 → ⊥) where
    test : is_number w ≡ (all is_digit w && leb (decimal 0 w) top)
    test = number-test w n k z

    pub so-number : (m : ℕ) → Digits w (Some m) → m ≤ top → NumberIs w (Some m)
    unfolding NumberIs Digits
    so-number m r l = (test ∙ rw (r.0, ← r.1, le-leb m top l), r.1, l)

    pub big-number : (m : ℕ) → Digits w (Some m) → top < m → NumberIs w None
    unfolding NumberIs Digits
    big-number m r l = test ∙ rw (r.0, ← r.1, lt-leb m top l)

    pub not-number : Digits w None → NumberIs w None
    unfolding NumberIs Digits
    not-number r = test ∙ rw r

pub ruleset laws = (rules, counted_none, ten-fits, sum_fits, counted-more, digits-not, digits-all, digit-least, no_number, long-number, zeros-number, so-number, big-number, not-number)
