-- Two runs of words compared, one compared with zeros, and one run of bytes copied: what the functions promise, and what a turn of
-- the loops keeps. Assumes nothing.
use Rattle.std.specs.Prelude.{◌≡◌, refl, Bool, true, false, List, [], ◌∷◌, ◌++◌, ℕ, zero, suc, ◌+◌, ◌≤◌, ◌<◌, eqb, length, take, drop, get_or}
use Rattle.std.proofs.Common.{sym, ap, ap₂, ◌∙◌, subst as transp, append_assoc, add-one, arith, rules, eqb-true, ne_eqb, take-suc, drop-cons, take-take, get_or-take, length-take-le, take_all}
use Rattle.std.proofs.lemmas.Bool.{false≢true, eqb-false}
use Rattle.std.specs.Int.Bits.{bit_or, or_zero_r, or_add_and}
use Rattle.std.proofs.lemmas.Nat.{and_le_l}
use Rattle.layout.specs.Pack.{zeros}
use Rattle.layout_laws.specs.PackLaws.{length-zeros}
use Rattle.std.proofs.Math.Seq.{take-length}

-- r tells whether the lists are equal
pub record Same (a b : List ℕ) (r : Bool) : Type 0 where
  pub sound : r ≡ true → a ≡ b
  pub complete : a ≡ b → r ≡ true

-- r is s where x and y are equal, and false where not
pub record Still (s : Bool) (x y : ℕ) (r : Bool) : Type 0 where
  pub equal : x ≡ y → r ≡ s
  pub other : (x ≡ y → ⊥) → r ≡ false

-- the first n of `from` stand in front of what old keeps
unfoldable pub Copied : List ℕ → ℕ → List ℕ → List ℕ → Type 0
Copied from n old new = new ≡ take n from ++ drop n old

-- ---- comparing
pub still-same : (s : Bool) (x y : ℕ) → x ≡ y → Still s x y s
still-same s x y e = record { equal = λ z. refl; other = λ f. absurd (f e) }

pub still-not : (s : Bool) (x y : ℕ) → (x ≡ y → ⊥) → Still s x y false
still-not s x y f = record { equal = λ z. absurd (f z); other = λ z. refl }

module _ (a b : List ℕ) where
  pub same_start : Same (take 0 a) (take 0 b) true
  same_start = record { sound = λ e. refl; complete = λ e. refl }

  module _ (i n : ℕ) (r : Bool) (c : i < n) (h : n ≤ length a) (k : n ≤ length b) (s : Same (take i a) (take i b) r) where
    longer-a : take (i + 1) a ≡ take i a ++ (get_or a i 0 ∷ [])
    longer-a = rw add-one (take-suc a i 0 (omega arith))

    longer-b : take (i + 1) b ≡ take i b ++ (get_or b i 0 ∷ [])
    longer-b = rw add-one (take-suc b i 0 (omega arith))

    prefix : take (i + 1) a ≡ take (i + 1) b → take i a ≡ take i b
    prefix e = sym (take-take i (i + 1) a (omega arith)) ∙ ap (take i) e ∙ take-take i (i + 1) b (omega arith)

    at : take (i + 1) a ≡ take (i + 1) b → get_or a i 0 ≡ get_or b i 0
    at e = sym (get_or-take (i + 1) a i 0 (omega arith)) ∙ ap (λ l. get_or l i 0) e ∙ get_or-take (i + 1) b i 0 (omega arith)

    pub same_more : (q : Bool) → Still r (get_or a i 0) (get_or b i 0) q → Same (take (i + 1) a) (take (i + 1) b) q
    same_more q t = go (eqb (get_or a i 0) (get_or b i 0)) refl
      where
        go : (c : Bool) → eqb (get_or a i 0) (get_or b i 0) ≡ c → Same (take (i + 1) a) (take (i + 1) b) q
        go true e =
            let z = eqb-true (get_or a i 0) (get_or b i 0) e in
            record {
              sound = λ y. longer-a ∙ ap₂ {C = List ℕ} (λ u x. u ++ (x ∷ [])) (s.sound (sym (t.equal z) ∙ y)) z ∙ sym longer-b;
              complete = λ y. t.equal z ∙ s.complete (prefix y);
            }
        go false e =
            let z = eqb-false (get_or a i 0) (get_or b i 0) e in
            record {
              sound = λ y. absurd (false≢true (sym (t.other z) ∙ y));
              complete = λ y. absurd (z (at y));
            }

  pub same_end : (i n : ℕ) (r : Bool) → n ≤ i → i ≤ n → Same (take i a) (take i b) r → Same (take n a) (take n b) r
  same_end i n r h k s = let z : i ≡ n = omega arith in transp (λ m. Same (take m a) (take m b) r) z s

-- ---- zeros
-- x or y is zero as x is where y is zero, and not zero where y is not
pub gathers : (x y : ℕ) → Still (eqb x 0) y 0 (eqb (bit_or x y) 0)
gathers x y =
    record {
      equal = λ z. ap (λ n. eqb (bit_or x n) 0) z ∙ ap (λ n. eqb n 0) (or_zero_r x);
      other = λ f. ne_eqb (bit_or x y) 0 (λ z. f (omega (arith, z, or_add_and x y, and_le_l x y)));
    }

zero_in : (i n : ℕ) → get_or (zeros n) i 0 ≡ 0
unfolding zeros
zero_in i zero = refl
zero_in zero (suc n) = refl
zero_in (suc i) (suc n) = zero_in i n

module _ (w : List ℕ) where
  abbrev Zero : ℕ → Bool → Type 0
  Zero i r = Same (take i w) (take i (zeros (length w))) r

  pub zero-start : Zero 0 true
  zero-start = same_start w (zeros (length w))

  pub zero_more : (i : ℕ) (r q : Bool) → i < length w → Zero i r → Still r (get_or w i 0) 0 q → Zero (i + 1) q
  zero_more i r q l s t =
      let z = length-zeros (length w) in
      same_more w (zeros (length w)) i (length w) r l (omega arith) (omega arith) s q (rw (zero_in i (length w)) t)

  pub zero-end : (i : ℕ) (r : Bool) → length w ≤ i → i ≤ length w → Zero i r → Same w (zeros (length w)) r
  zero-end i r h k s =
      let z : i ≡ length w = omega arith in
      let l = length-zeros (length w) in
      rw (z, take-length w, take_all (length w) (zeros (length w)) (omega arith)) at s

pub ruleset laws = (rules, same_start, same_more, same_end, gathers, zero-start, zero_more, zero-end, still-same, still-not)
