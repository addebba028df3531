-- That variables are bound, over trees: a list keeps for each name the level of its innermost binding, and 0 where it has none. What is
-- above the base is in scope, since a literal that hides what is around it makes the level its base. A word binds three names, 0 where
-- there are fewer: 0 is `this`, which needs no binding and may have any. Assumes nothing.
use Prim.Native.Nat.{ℕ, ◌+◌, ◌-◌, ◌/◌, ◌%◌, ◌≤◌, ◌<◌}
use Rattle.std.specs.Prelude.{◌≡◌, refl, cond, ◌&&◌, Option, Some, None, List, eqb, ltb, get_or, set}
use Rattle.std.proofs.Math.Path.{sym, ap, ap₂}
use Rattle.std.proofs.Common.{◌∙◌, arith, rules}
use Rattle.std.proofs.Math.Bool.{Bool, true, false}
use borrow.Author.Tests.{ne_eqb, lt-ltb, le-ltb}
use Rattle.std.proofs.Math.ListN.{length}
use Rattle.words.specs.Wide.{wide_kinds, wide_limit, wide_params_at, wide_third}
use Rattle.checks.specs.Scope.{Bound, Kept, kept, inside-kept}
use Rattle.checks.specs.Trees.{Forest, empty, tree, words, count, outer, inner, Fits}
use Rattle.checks.specs.TreeContract.{Here, length-tree, here-word, here-outer, here-inner, here-next, answer, stopped, went, no-tree}

-- a variable is `this` or in scope
unfoldable pub sees : ℕ → ℕ → List ℕ → Bool
sees h b L = cond (eqb (h % wide_kinds) 6) (cond (eqb (h / wide_kinds % wide_limit) 0) true (ltb b (get_or L (h / wide_kinds % wide_limit) 0))) true

-- the base inside a word
abbrev pub base_by : ℕ → ℕ → ℕ → ℕ
base_by k b l = cond (eqb k 16) l (cond (eqb k 17) l b)

unfoldable pub base_of : ℕ → ℕ → ℕ → ℕ
base_of h b l = base_by (h % wide_kinds) b l

-- the names that a word binds, in 12 bits each
abbrev pub binds_by : ℕ → ℕ → ℕ
binds_by k p = cond (eqb k 11) p (cond (eqb k 12) p (cond (eqb k 65) p (cond (eqb k 67) p (cond (eqb k 192) (p / wide_params_at) 0))))

unfoldable pub binds : ℕ → ℕ
binds h = binds_by (h % wide_kinds) (h / wide_kinds)

-- the three names are bound at the level v
unfoldable pub bind_all : List ℕ → ℕ → ℕ → List ℕ
bind_all L n v = set (set (set L (n / wide_third % wide_limit) v) (n / wide_limit % wide_limit) v) (n % wide_limit) v

unfoldable pub ok : Forest → List ℕ → ℕ → ℕ → Bool
ok empty L b l = true
ok (tree h a c r) L b l = sees h b L && (ok a L (base_of h b l) l && (ok c (bind_all L (binds h) (l + 1)) (base_of h b l) (l + 1) && ok r L b l))

-- the answer for n trees at `at`
unfoldable pub Scanned : List ℕ → ℕ → ℕ → ℕ → ℕ → ℕ → List ℕ → Option ℕ → Type 0
Scanned s end at n b l L r = (f : Forest) → Fits f → count f ≡ n → Here s end at (words f) → r ≡ answer (ok f L b l) (at + length (words f))

-- ---- one word
module _ (h b : ℕ) (L : List ℕ) where
  pub sees-this : h % wide_kinds ≡ 6 → h / wide_kinds % wide_limit ≡ 0 → true ≡ sees h b L
  unfolding sees
  sees-this k e = rw (k, e)

  pub sees-bound : h % wide_kinds ≡ 6 → (h / wide_kinds % wide_limit ≡ 0 → ⊥) → b < get_or L (h / wide_kinds % wide_limit) 0 → true ≡ sees h b L
  unfolding sees
  sees-bound k e l = rw (k, ne_eqb (h / wide_kinds % wide_limit) 0 e, lt-ltb b (get_or L (h / wide_kinds % wide_limit) 0) l)

  pub sees-unbound : h % wide_kinds ≡ 6 → (h / wide_kinds % wide_limit ≡ 0 → ⊥) → get_or L (h / wide_kinds % wide_limit) 0 ≤ b → false ≡ sees h b L
  unfolding sees
  sees-unbound k e l = rw (k, ne_eqb (h / wide_kinds % wide_limit) 0 e, le-ltb b (get_or L (h / wide_kinds % wide_limit) 0) l)

  pub sees-other : (h % wide_kinds ≡ 6 → ⊥) → true ≡ sees h b L
  unfolding sees
  sees-other k = rw (ne_eqb (h % wide_kinds) 6 k)

pub record Base (h b l r : ℕ) : Type 0 where
  pub is : r ≡ base_of h b l

pub base-level : (h b l k : ℕ) → h % wide_kinds ≡ k → l ≡ base_by k b l → Base h b l l
unfolding base_of
base-level h b l k e i = record { is = i ∙ ap (λ j. base_by j b l) (sym e) }

pub base_same : (h b l : ℕ) → (h % wide_kinds ≡ 16 → ⊥) → (h % wide_kinds ≡ 17 → ⊥) → Base h b l b
unfolding base_of
base_same h b l x y = record { is = rw (ne_eqb (h % wide_kinds) 16 x, ne_eqb (h % wide_kinds) 17 y) }

pub binds-is : (h k r : ℕ) → h % wide_kinds ≡ k → r ≡ binds_by k (h / wide_kinds) → r ≡ binds h
unfolding binds
binds-is h k r e i = i ∙ ap (λ j. binds_by j (h / wide_kinds)) (sym e)

pub binds-none : (h : ℕ) → (h % wide_kinds ≡ 11 → ⊥) → (h % wide_kinds ≡ 12 → ⊥) → (h % wide_kinds ≡ 65 → ⊥) → (h % wide_kinds ≡ 67 → ⊥) → (h % wide_kinds ≡ 192 → ⊥) → 0 ≡ binds h
unfolding binds
binds-none h a b c d e = rw (ne_eqb (h % wide_kinds) 11 a, ne_eqb (h % wide_kinds) 12 b, ne_eqb (h % wide_kinds) 65 c, ne_eqb (h % wide_kinds) 67 d, ne_eqb (h % wide_kinds) 192 e)

-- ---- the ways to return
module _ (s : List ℕ) (end at n b l : ℕ) (L : List ℕ) where
  pub scan-none : n ≡ 0 → Scanned s end at n b l L (Some at)
  unfolding Scanned ok words
  scan-none z f ft c here = rw (no-tree f (c ∙ z)) (ap Some (omega arith))

  pub scan-past : (n ≡ 0 → ⊥) → end ≤ at → Scanned s end at n b l L None
  unfolding Scanned count
  scan-past z p empty ft c here = absurd (z (sym c))
  scan-past z p (tree h a d r) ft c here = absurd (omega (arith, here.ends, length-tree s end at h a d r here))

  pub scan-fault : (o : Bool) → (n ≡ 0 → ⊥) → o ≡ sees (get_or s at 0) b L → o ≡ false → Scanned s end at n b l L None
  unfolding Scanned count ok
  scan-fault o z e t empty ft c here = absurd (z (sym c))
  scan-fault o z e t (tree h a d r) ft c here =
      let q : sees h b L ≡ false = ap (λ k. sees k b L) (sym (here-word s end at h a d r here)) ∙ sym e ∙ t in
      rw q

  pub scan-kept : (L₁ L₂ L₃ : List ℕ) → Kept L L₁ → Kept L₁ L₂ → Kept L₂ L₃ → Kept L L₃
  unfolding Kept
  scan-kept L₁ L₂ L₃ p q u = u ∙ q ∙ p

  pub scan-kept-two : (L₁ L₂ : List ℕ) → Kept L L₁ → Kept L₁ L₂ → Kept L L₂
  unfolding Kept
  scan-kept-two L₁ L₂ p q = q ∙ p

  module _ (o : Bool) (B i : ℕ) (z : n ≡ 0 → ⊥) (eo : o ≡ sees (get_or s at 0) b L) (t : o ≡ true) (hb : Base (get_or s at 0) b l B) (ei : i ≡ outer (get_or s at 0)) where
    -- the first word is no variable that is not bound
    seen : (h : ℕ) (a d f : Forest) → Here s end at (words (tree h a d f)) → sees h b L ≡ true
    seen h a d f here = ap (λ k. sees k b L) (sym (here-word s end at h a d f here)) ∙ sym eo ∙ t

    based : (h : ℕ) (a d f : Forest) → Here s end at (words (tree h a d f)) → B ≡ base_of h b l
    based h a d f here = hb.is ∙ ap (λ k. base_of k b l) (here-word s end at h a d f here)

    -- what was found of its outer operands
    scanned-outer : (r : Option ℕ) → Scanned s end (at + 1) i B l L r → (h : ℕ) (a d f : Forest) → Fits (tree h a d f) → Here s end at (words (tree h a d f)) → r ≡ answer (ok a L (base_of h b l) l) (at + 1 + length (words a))
    unfolding Scanned Fits
    scanned-outer r wa h a d f ft here =
        wa a ft.2 (ft.0 ∙ sym (ei ∙ ap outer (here-word s end at h a d f here))) (here-outer s end at h a d f here) ∙ ap (λ k. answer (ok a L k l) (at + 1 + length (words a))) (based h a d f here)

    pub scan-outer : Scanned s end (at + 1) i B l L None → Scanned s end at n b l L None
    unfolding Scanned count ok
    scan-outer wa empty ft c here = absurd (z (sym c))
    scan-outer wa (tree h a d f) ft c here = rw (seen h a d f here, stopped (ok a L (base_of h b l) l) _ (scanned-outer None wa h a d f ft here))

    module _ (m : ℕ) (L₁ : List ℕ) (wa : Scanned s end (at + 1) i B l L (Some m)) (e₁ : Kept L L₁) where
      outer-end : (h : ℕ) (a d f : Forest) → Fits (tree h a d f) → Here s end at (words (tree h a d f)) → (ok a L (base_of h b l) l ≡ true) × (m ≡ at + 1 + length (words a))
      outer-end h a d f ft here = went (ok a L (base_of h b l) l) _ m (scanned-outer (Some m) wa h a d f ft here)

      abbrev Inner : Option ℕ → Type 0
      Inner r = Scanned s end m (inner (get_or s at 0)) B (l + 1) (bind_all L₁ (binds (get_or s at 0)) (l + 1)) r

      scanned-inner : (r : Option ℕ) → Inner r → (h : ℕ) (a d f : Forest) → Fits (tree h a d f) → Here s end at (words (tree h a d f)) → r ≡ answer (ok d (bind_all L (binds h) (l + 1)) (base_of h b l) (l + 1)) (m + length (words d))
      unfolding Scanned Fits Kept
      scanned-inner r wc h a d f ft here =
          let hh = here-word s end at h a d f here in
          wc d ft.3 (ft.1 ∙ sym (ap inner hh)) (here-inner s end at h a d f here m (outer-end h a d f ft here).1) ∙ rw (based h a d f here, e₁, hh)

      pub scan-stop : Inner None → Scanned s end at n b l L None
      unfolding Scanned count ok
      scan-stop wc empty ft c here = absurd (z (sym c))
      scan-stop wc (tree h a d f) ft c here =
          rw (seen h a d f here, (outer-end h a d f ft here).0, stopped (ok d (bind_all L (binds h) (l + 1)) (base_of h b l) (l + 1)) _ (scanned-inner None wc h a d f ft here))

      pub scan-on : (e : ℕ) (r : Option ℕ) (L₂ : List ℕ) → Inner (Some e) → Kept L₁ L₂ → Scanned s end e (n - 1) b l L₂ r → Scanned s end at n b l L r
      unfolding Scanned count ok Fits Kept
      scan-on e r L₂ wc e₂ wr empty ft c here = absurd (z (sym c))
      scan-on e r L₂ wc e₂ wr (tree h a d f) ft c here =
          let x = outer-end h a d f ft here in
          let y = went (ok d (bind_all L (binds h) (l + 1)) (base_of h b l) (l + 1)) _ e (scanned-inner (Some e) wc h a d f ft here) in
          let k : e ≡ at + 1 + length (words a) + length (words d) = omega (arith, x.1, y.1) in
          let j : e + length (words f) ≡ at + length (words (tree h a d f)) = omega (arith, k, length-tree s end at h a d f here) in
          rw (seen h a d f here, x.0, y.0)
          (wr f ft.4 (omega arith) (here-next s end at h a d f here e k) ∙ ap₂ answer (ap (λ M. ok f M b l) (e₂ ∙ e₁)) j)

pub inside : (h g : ℕ) (L L₁ : List ℕ) (x y z : ℕ) (s : List ℕ) (end at j b l : ℕ) (r : Option ℕ) → g ≡ binds h → Bound wide_limit L g (l + 1) L₁ x y z → j ≡ inner h → Scanned s end at j b (l + 1) L₁ r → Scanned s end at (inner h) b (l + 1) (bind_all L (binds h) (l + 1)) r
unfolding bind_all
inside h g L L₁ x y z s end at j b l r eg p ej k =
    let t : binds h / wide_limit / wide_limit ≡ binds h / wide_third = omega arith in
    let e : L₁ ≡ set (set (set L (binds h / wide_third % wide_limit) (l + 1)) (binds h / wide_limit % wide_limit) (l + 1)) (binds h % wide_limit) (l + 1) = rw (← t, ← eg) p.new in
    rw (ej, e) at k

pub ruleset laws = (rules, sees-this, sees-bound, sees-unbound, sees-other, base-level, base_same, binds-is, binds-none)

pub ruleset scan_laws = (rules, kept, scan-none, scan-past, scan-fault, scan-kept, scan-kept-two, scan-outer, scan-stop, scan-on, inside-kept, inside)
