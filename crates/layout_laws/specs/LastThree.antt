-- Numbers kept in one: each below B, the last one lowest, and 0 where there is none. A list of fields or methods has at most four, so that code
-- keeps three and compares the next with those: whether the names or signatures of a list differ is told without a search. Assumes nothing.
use Prim.Native.Nat.{ℕ, zero, suc, ◌+◌, ◌*◌, ◌/◌, ◌%◌, ◌≤◌, ◌<◌}
use Rattle.std.specs.Prelude.{◌≡◌, refl, Bool, true, false, cond, not, ◌&&◌, eqb, length, if◌then◌else◌}
use Rattle.std.proofs.Common.{sym, ◌∙◌, mod-eq_of_lt, arith}
use Rattle.std.proofs.Math.Path.{ap}
use mathlib.Core.List.{List, [], ◌∷◌}
use Rattle.std.proofs.Math.Nat.{mul-le-mul_left, mul-add, div-eq_of_lt}
use borrow.Author.Tests.{eq-eqb, ne_eqb, eqb-true, eqb-false}
use Rattle.atlite.specs.Base.{any, member, distinct_by, distinct}
use Rattle.layout_laws.specs.PackLaws.{Each, pack-low, pack-high}

-- ---- one after another
-- the numbers behind those in ns are new, one after another
unfoldable pub distinct_from : List ℕ → List ℕ → Bool
distinct_from ns [] = true
distinct_from ns (x ∷ xs) = not (member x ns) && distinct_from (x ∷ ns) xs

unfoldable disjoint : List ℕ → List ℕ → Bool
disjoint ns [] = true
disjoint ns (x ∷ xs) = not (member x ns) && disjoint ns xs

pub not-if : (b r : Bool) → not (if b then true else r) ≡ cond b false (not r)
not-if true r = refl
not-if false r = refl

eqb-sym : (x y : ℕ) → eqb x y ≡ eqb y x
eqb-sym x y = go (eqb y x) refl
  where
    go : (b : Bool) → eqb y x ≡ b → eqb x y ≡ b
    go true e = eq-eqb x y (sym (eqb-true y x e))
    go false e = ne_eqb x y (λ z. eqb-false y x e (sym z))

disjoint-cons : (x : ℕ) (ns xs : List ℕ) → disjoint (x ∷ ns) xs ≡ (not (member x xs) && disjoint ns xs)
unfolding disjoint any
disjoint-cons x ns [] = refl
disjoint-cons x ns (y ∷ xs) =
    rw (disjoint-cons x ns xs, not-if (eqb y x) (member y ns), not-if (eqb x y) (member x xs), eqb-sym y x)
    (turn (eqb x y) (not (member y ns)) (not (member x xs)) (disjoint ns xs))
  where
    turn : (e a b d : Bool) → cond e false a && (b && d) ≡ cond e false b && (a && d)
    turn true a b d = refl
    turn false true b d = refl
    turn false false true d = refl
    turn false false false d = refl

from-split : (ns xs : List ℕ) → distinct_from ns xs ≡ (disjoint ns xs && distinct xs)
unfolding distinct_from disjoint distinct_by
from-split ns [] = refl
from-split ns (x ∷ xs) = rw (from-split (x ∷ ns) xs, disjoint-cons x ns xs) (turn (not (member x ns)) (not (member x xs)) (disjoint ns xs) (distinct xs))
  where
    turn : (a b d e : Bool) → a && (b && d && e) ≡ a && d && (b && e)
    turn true true d e = refl
    turn true false true e = refl
    turn true false false e = refl
    turn false b d e = refl

disjoint-none : (xs : List ℕ) → disjoint [] xs ≡ true
unfolding disjoint any
disjoint-none [] = refl
disjoint-none (x ∷ xs) = disjoint-none xs

-- behind none, they are new if no two are the same
pub from-none : (xs : List ℕ) → distinct_from [] xs ≡ distinct xs
from-none xs = from-split [] xs ∙ rw (disjoint-none xs)

-- ---- in one number
module _ (B : ℕ) where
  unfoldable pub kept : List ℕ → ℕ
  kept [] = 0
  kept (x ∷ ns) = x + B * kept ns

  -- what n of them are below
  abbrev pub room : ℕ → ℕ
  room zero = 1
  room (suc n) = B * room n

  -- the number with one more, of which three stay
  unfoldable pub noted : ℕ → ℕ → ℕ
  noted N x = x + B * (N % room 3)

  -- x is none of the n lowest
  abbrev pub fresh_of : ℕ → ℕ → ℕ → Bool
  fresh_of zero N x = true
  fresh_of (suc n) N x = cond (eqb x (N % B)) false (fresh_of n (N / B) x)

  -- or of three
  unfoldable pub fresh : ℕ → ℕ → Bool
  fresh N x = fresh_of 3 N x

  -- ---- one comparison after another
  module _ (N x : ℕ) where
    pub fresh-first : x ≡ N % B → false ≡ fresh N x
    unfolding fresh
    fresh-first e = rw (eq-eqb x (N % B) e)

    module _ (a : x ≡ N % B → ⊥) where
      pub fresh-second : x ≡ N / B % B → false ≡ fresh N x
      unfolding fresh
      fresh-second e = rw (ne_eqb x (N % B) a, eq-eqb x (N / B % B) e)

      module _ (b : x ≡ N / B % B → ⊥) where
        pub fresh-third : x ≡ N / B / B % B → false ≡ fresh N x
        unfolding fresh
        fresh-third e = rw (ne_eqb x (N % B) a, ne_eqb x (N / B % B) b, eq-eqb x (N / B / B % B) e)

        pub fresh-yes : (x ≡ N / B / B % B → ⊥) → true ≡ fresh N x
        unfolding fresh
        fresh-yes d = rw (ne_eqb x (N % B) a, ne_eqb x (N / B % B) b, ne_eqb x (N / B / B % B) d)

  -- ---- the number is the list
  module _ (pos : 0 < B) where
    none-fresh : (n x : ℕ) → 0 < x → fresh_of n 0 x ≡ true
    none-fresh zero x z = refl
    none-fresh (suc n) x z = rw (mod-eq_of_lt pos, div-eq_of_lt pos, ne_eqb x 0 (λ e. omega arith)) (none-fresh n x z)

    few-fresh : (n : ℕ) (ns : List ℕ) (x : ℕ) → 0 < x → length ns ≤ n → Each (λ y. y < B) ns → fresh_of n (kept ns) x ≡ not (member x ns)
    unfolding kept any
    few-fresh n [] x z l h = none-fresh n x z
    few-fresh zero (a ∷ ns) x z l h = absurd (omega arith)
    few-fresh (suc n) (a ∷ ns) x z l h =
        rw (pack-low B a (kept ns) h.0, pack-high B a (kept ns) h.0, few-fresh n ns x z (omega arith) h.1) (sym (not-if (eqb x a) (member x ns)))

    -- what is compared with three of them is compared with the list
    pub kept_fresh : (ns : List ℕ) (x : ℕ) → 0 < x → length ns ≤ 3 → Each (λ y. y < B) ns → fresh (kept ns) x ≡ not (member x ns)
    unfolding fresh
    kept_fresh ns x z l h = few-fresh 3 ns x z l h

    room-above : (n : ℕ) → 0 < room n
    room-above zero = omega arith
    room-above (suc n) = let p = mul-le-mul_left B (room-above n) in omega (arith, p, pos, mul-add B 1 0)

    kept-below : (n : ℕ) (ns : List ℕ) → length ns ≤ n → Each (λ y. y < B) ns → kept ns < room n
    unfolding kept
    kept-below n [] l h = room-above n
    kept-below zero (a ∷ ns) l h = absurd (omega arith)
    kept-below (suc n) (a ∷ ns) l h =
        let k : 1 + kept ns ≤ room n = omega (arith, kept-below n ns (omega arith) h.1) in
        let p : B * (1 + kept ns) ≤ B * room n = mul-le-mul_left B k in
        let q : B * (1 + kept ns) ≡ B * 1 + B * kept ns = mul-add B 1 (kept ns) in
        omega (arith, p, q, h.0)

    -- one more
    pub kept-noted : (x : ℕ) (ns : List ℕ) → length ns ≤ 3 → Each (λ y. y < B) ns → noted (kept ns) x ≡ kept (x ∷ ns)
    unfolding noted kept
    kept-noted x ns l h = ap (λ n. x + B * n) (mod-eq_of_lt (kept-below 3 ns l h))
