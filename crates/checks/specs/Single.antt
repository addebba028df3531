-- That names are single, over trees: a number keeps the signatures of the headers before, in 14 bits each. A field's is its name. Assumes
-- nothing.
use Rattle.std.specs.Prelude.{ℕ, ◌+◌, ◌-◌, ◌*◌, ◌/◌, ◌%◌, ◌≤◌, ◌<◌, ◌≡◌, Bool, cond, ◌&&◌, not, Option, Some, None, List, eqb, ltb, get_or}
use Rattle.std.proofs.Math.Path.{sym, ap, ap₂}
use Rattle.std.proofs.Common.{◌∙◌, arith, rules}
use Rattle.std.proofs.Math.Bool.{true, false}
use borrow.Author.Tests.{eq-eqb, ne_eqb, lt-ltb, le-ltb}
use Rattle.std.proofs.Math.ListN.{length}
use Rattle.layout.specs.Numbers.{field_kind}
use Rattle.layout_laws.specs.LastThree.{fresh, fresh-first, fresh-second, fresh-third, fresh-yes, room, noted as keep}
use Rattle.words.specs.Wide.{wide_kinds, wide_limit, wide_third, wide_signed, wide_params_at}
use Rattle.checks.specs.Trees.{Forest, empty, tree, words, count, outer, inner, Fits}
use Rattle.checks.specs.TreeContract.{Here, length-tree, here-word, here-outer, here-inner, here-next, answer, stopped, went, no-tree}

-- of three places, filled from the first on and 0 where empty, no two are the same name
unfoldable pub apart : ℕ → ℕ → ℕ → Bool
apart x y z = cond (eqb y 0) true (cond (eqb x y) false (cond (eqb z 0) true (cond (eqb x z) false (cond (eqb y z) false true))))

-- the names that the word itself lists, and its own signature in the list where it stands
abbrev pub own_by : ℕ → ℕ → ℕ → Bool
own_by k p n =
    cond (eqb k 12) (not (eqb (p % wide_limit) (p / wide_limit % wide_limit)))
    (cond (eqb k field_kind) (fresh wide_signed n (p % wide_signed))
    (cond (eqb k 192) (fresh wide_signed n (p % wide_signed) && apart (p / wide_params_at % wide_limit) (p / wide_params_at / wide_limit % wide_limit) (p / wide_params_at / wide_third % wide_limit))
    true))

unfoldable pub own : ℕ → ℕ → Bool
own h n = own_by (h % wide_kinds) (h / wide_kinds) n

-- the signatures, with that of a header
unfoldable pub noted : ℕ → ℕ → ℕ
noted h n = cond (ltb (h % wide_kinds) field_kind) n (keep wide_signed n (h / wide_kinds % wide_signed))

unfoldable pub sing : Forest → ℕ → Bool
sing empty n = true
sing (tree h a c b) n = own h n && (sing a 0 && (sing c 0 && sing b (noted h n)))

-- the answer for n trees at `at`, behind the signatures in `names`
unfoldable pub Walked : List ℕ → ℕ → ℕ → ℕ → ℕ → Option ℕ → Type 0
Walked s end at n names r = (f : Forest) → Fits f → count f ≡ n → Here s end at (words f) → r ≡ answer (sing f names) (at + length (words f))

-- ---- one word
module _ (x y z : ℕ) where
  pub apart-one : y ≡ 0 → true ≡ apart x y z
  unfolding apart
  apart-one e = rw (eq-eqb y 0 e)

  module _ (a : y ≡ 0 → ⊥) where
    pub apart-not : x ≡ y → false ≡ apart x y z
    unfolding apart
    apart-not e = rw (ne_eqb y 0 a, eq-eqb x y e)

    module _ (b : x ≡ y → ⊥) where
      pub apart-two : z ≡ 0 → true ≡ apart x y z
      unfolding apart
      apart-two e = rw (ne_eqb y 0 a, ne_eqb x y b, eq-eqb z 0 e)

      module _ (c : z ≡ 0 → ⊥) where
        pub apart-first : x ≡ z → false ≡ apart x y z
        unfolding apart
        apart-first e = rw (ne_eqb y 0 a, ne_eqb x y b, ne_eqb z 0 c, eq-eqb x z e)

        pub apart-second : (x ≡ z → ⊥) → y ≡ z → false ≡ apart x y z
        unfolding apart
        apart-second d e = rw (ne_eqb y 0 a, ne_eqb x y b, ne_eqb z 0 c, ne_eqb x z d, eq-eqb y z e)

        pub apart-three : (x ≡ z → ⊥) → (y ≡ z → ⊥) → true ≡ apart x y z
        unfolding apart
        apart-three d e = rw (ne_eqb y 0 a, ne_eqb x y b, ne_eqb z 0 c, ne_eqb x z d, ne_eqb y z e)

module _ (h n : ℕ) where
  pub own_same : h % wide_kinds ≡ 12 → h / wide_kinds % wide_limit ≡ h / wide_kinds / wide_limit % wide_limit → false ≡ own h n
  unfolding own
  own_same k e = rw (k, eq-eqb (h / wide_kinds % wide_limit) (h / wide_kinds / wide_limit % wide_limit) e)

  pub own-other : h % wide_kinds ≡ 12 → (h / wide_kinds % wide_limit ≡ h / wide_kinds / wide_limit % wide_limit → ⊥) → true ≡ own h n
  unfolding own
  own-other k e = rw (k, ne_eqb (h / wide_kinds % wide_limit) (h / wide_kinds / wide_limit % wide_limit) e)

  pub own-field : (r : Bool) → h % wide_kinds ≡ field_kind → r ≡ fresh wide_signed n (h / wide_kinds % wide_signed) → r ≡ own h n
  unfolding own
  own-field r k e = e ∙ rw k

  pub own-method : (a r : Bool) → h % wide_kinds ≡ 192 → a ≡ fresh wide_signed n (h / wide_kinds % wide_signed) → a ≡ true
      → r ≡ apart (h / wide_kinds / wide_params_at % wide_limit) (h / wide_kinds / wide_params_at / wide_limit % wide_limit) (h / wide_kinds / wide_params_at / wide_third % wide_limit) → r ≡ own h n
  unfolding own
  own-method a r k e t i = i ∙ rw (k, sym e ∙ t)

  pub own-taken : (a : Bool) → h % wide_kinds ≡ 192 → a ≡ fresh wide_signed n (h / wide_kinds % wide_signed) → a ≡ false → false ≡ own h n
  unfolding own
  own-taken a k e t = rw (k, sym e ∙ t)

  pub own-none : (h % wide_kinds ≡ 12 → ⊥) → (h % wide_kinds ≡ field_kind → ⊥) → (h % wide_kinds ≡ 192 → ⊥) → true ≡ own h n
  unfolding own
  own-none a b c = rw (ne_eqb (h % wide_kinds) 12 a, ne_eqb (h % wide_kinds) field_kind b, ne_eqb (h % wide_kinds) 192 c)

  pub noted-node : h % wide_kinds < field_kind → n ≡ noted h n
  unfolding noted
  noted-node l = rw (lt-ltb (h % wide_kinds) field_kind l)

  pub noted-header : field_kind ≤ h % wide_kinds → h / wide_kinds % wide_signed + wide_signed * (n % room wide_signed 3) ≡ noted h n
  unfolding noted keep
  noted-header l = rw (le-ltb (h % wide_kinds) field_kind l)

-- ---- the ways to return
module _ (s : List ℕ) (end at n names : ℕ) where
  pub walk_none : n ≡ 0 → Walked s end at n names (Some at)
  unfolding Walked sing words
  walk_none z f ft c here = rw (no-tree f (c ∙ z)) (ap Some (omega arith))

  pub walk-past : (n ≡ 0 → ⊥) → end ≤ at → Walked s end at n names None
  unfolding Walked count
  walk-past z l empty ft c here = absurd (z (sym c))
  walk-past z l (tree h a d b) ft c here = absurd (omega (arith, here.ends, length-tree s end at h a d b here))

  pub walk-fault : (o : Bool) → (n ≡ 0 → ⊥) → o ≡ own (get_or s at 0) names → o ≡ false → Walked s end at n names None
  unfolding Walked count sing
  walk-fault o z e t empty ft c here = absurd (z (sym c))
  walk-fault o z e t (tree h a d b) ft c here =
      let q : own h names ≡ false = ap (λ k. own k names) (sym (here-word s end at h a d b here)) ∙ sym e ∙ t in
      rw q

  module _ (o : Bool) (i : ℕ) (z : n ≡ 0 → ⊥) (eo : o ≡ own (get_or s at 0) names) (t : o ≡ true) (ei : i ≡ outer (get_or s at 0)) where
    -- the first tree's own test was passed
    owned : (h : ℕ) (a d b : Forest) → Here s end at (words (tree h a d b)) → own h names ≡ true
    owned h a d b here = ap (λ k. own k names) (sym (here-word s end at h a d b here)) ∙ sym eo ∙ t

    -- what was found of its outer operands
    walked-outer : (r : Option ℕ) → Walked s end (at + 1) i 0 r → (h : ℕ) (a d b : Forest) → Fits (tree h a d b) → Here s end at (words (tree h a d b)) → r ≡ answer (sing a 0) (at + 1 + length (words a))
    unfolding Walked Fits
    walked-outer r wa h a d b ft here = wa a ft.2 (ft.0 ∙ sym (ei ∙ ap outer (here-word s end at h a d b here))) (here-outer s end at h a d b here)

    pub walk-outer : Walked s end (at + 1) i 0 None → Walked s end at n names None
    unfolding Walked count sing
    walk-outer wa empty ft c here = absurd (z (sym c))
    walk-outer wa (tree h a d b) ft c here = rw (owned h a d b here, stopped (sing a 0) _ (walked-outer None wa h a d b ft here))

    module _ (j m : ℕ) (wa : Walked s end (at + 1) i 0 (Some m)) (ej : j ≡ inner (get_or s at 0)) where
      outer-end : (h : ℕ) (a d b : Forest) → Fits (tree h a d b) → Here s end at (words (tree h a d b)) → (sing a 0 ≡ true) × (m ≡ at + 1 + length (words a))
      outer-end h a d b ft here = went (sing a 0) _ m (walked-outer (Some m) wa h a d b ft here)

      walked-inner : (r : Option ℕ) → Walked s end m j 0 r → (h : ℕ) (a d b : Forest) → Fits (tree h a d b) → Here s end at (words (tree h a d b)) → r ≡ answer (sing d 0) (m + length (words d))
      unfolding Walked Fits
      walked-inner r wc h a d b ft here =
          wc d ft.3 (ft.1 ∙ sym (ej ∙ ap inner (here-word s end at h a d b here))) (here-inner s end at h a d b here m (outer-end h a d b ft here).1)

      pub walk-inner : Walked s end m j 0 None → Walked s end at n names None
      unfolding Walked count sing
      walk-inner wc empty ft c here = absurd (z (sym c))
      walk-inner wc (tree h a d b) ft c here =
          rw (owned h a d b here, (outer-end h a d b ft here).0, stopped (sing d 0) _ (walked-inner None wc h a d b ft here))

      pub walk-on : (e g : ℕ) (r : Option ℕ) → Walked s end m j 0 (Some e) → g ≡ noted (get_or s at 0) names → Walked s end e (n - 1) g r → Walked s end at n names r
      unfolding Walked count sing Fits
      walk-on e g r wc eg wb empty ft c here = absurd (z (sym c))
      walk-on e g r wc eg wb (tree h a d b) ft c here =
          let x = outer-end h a d b ft here in
          let y = went (sing d 0) _ e (walked-inner (Some e) wc h a d b ft here) in
          let k : e ≡ at + 1 + length (words a) + length (words d) = omega (arith, x.1, y.1) in
          let l : e + length (words b) ≡ at + length (words (tree h a d b)) = omega (arith, k, length-tree s end at h a d b here) in
          rw (owned h a d b here, x.0, y.0)
          (wb b ft.4 (omega arith) (here-next s end at h a d b here e k) ∙ ap₂ answer (ap (sing b) (eg ∙ ap (λ k. noted k names) (here-word s end at h a d b here))) l)

pub ruleset laws = (rules, fresh-first, fresh-second, fresh-third, fresh-yes, apart-one, apart-not, apart-two, apart-first, apart-second, apart-three, own_same, own-other, own-field, own-method, own-taken, own-none, noted-node, noted-header)

pub ruleset walk_laws = (rules, walk_none, walk-past, walk-fault, walk-outer, walk-inner, walk-on)
