-- What the functions of one word find, and how a pass over trees goes on from one to the next. A pass answers the end of the trees, if it
-- found no fault. Assumes nothing.
use Rattle.std.specs.Prelude.{ℕ, ◌+◌, ◌/◌, ◌%◌, ◌≤◌, ◌≡◌, Bool, true, false, Option, Some, None, List, [], ◌∷◌, ◌++◌, length, get_or}
use Rattle.std.specs.Bool.{then_some}
use Rattle.std.proofs.Math.Path.{refl}
use Rattle.std.proofs.lemmas.Option.{same_Some}
use Rattle.std.proofs.Common.{sym, ap, ◌∙◌, append_assoc, arith, rules, ne_eqb}
use Rattle.std.proofs.Math.ListN.{length-append}
use Rattle.std.proofs.lemmas.List.{get_or_at}
use Rattle.layout.specs.Numbers.{field_kind}
use Rattle.decoding.specs.Kinds.{row_in}
use Rattle.words.specs.Wide.{wide_kinds}
use Rattle.checks.specs.Trees.{Forest, empty, tree, words, count, outer_by, inner_by, outer, inner}

pub outer-is : (h k r : ℕ) → h % wide_kinds ≡ k → r ≡ outer_by k (h / wide_kinds) → r ≡ outer h
unfolding outer
outer-is h k r e i = i ∙ ap (λ j. outer_by j (h / wide_kinds)) (sym e)

pub inner-is : (h k r : ℕ) → h % wide_kinds ≡ k → r ≡ inner_by k (h / wide_kinds) → r ≡ inner h
unfolding inner
inner-is h k r e i = i ∙ ap (λ j. inner_by j (h / wide_kinds)) (sym e)

abbrev Not : ℕ → ℕ → Type 0
Not h k = h % wide_kinds ≡ k → ⊥

pub outer-row : (h r : ℕ) → Not h 11 → Not h 12 → Not h 13 → Not h 14 → Not h 15 → Not h 16 → Not h 17 → Not h 64 → Not h 66 → Not h 67 → Not h 68 → Not h field_kind → r ≡ (row_in (h % wide_kinds)).operands → r ≡ outer h
unfolding outer
outer-row h r a b c d e f g i j k l m p =
    p ∙ rw (ne_eqb (h % wide_kinds) 11 a, ne_eqb (h % wide_kinds) 12 b, ne_eqb (h % wide_kinds) 13 c, ne_eqb (h % wide_kinds) 14 d, ne_eqb (h % wide_kinds) 15 e, ne_eqb (h % wide_kinds) 16 f, ne_eqb (h % wide_kinds) 17 g, ne_eqb (h % wide_kinds) 64 i, ne_eqb (h % wide_kinds) 66 j, ne_eqb (h % wide_kinds) 67 k, ne_eqb (h % wide_kinds) 68 l, ne_eqb (h % wide_kinds) field_kind m)

pub inner-none : (h : ℕ) → Not h 11 → Not h 12 → Not h 15 → Not h 16 → Not h 17 → Not h 65 → Not h 67 → Not h 192 → 0 ≡ inner h
unfolding inner
inner-none h a b c d e f g i =
    rw (ne_eqb (h % wide_kinds) 11 a, ne_eqb (h % wide_kinds) 12 b, ne_eqb (h % wide_kinds) 15 c, ne_eqb (h % wide_kinds) 16 d, ne_eqb (h % wide_kinds) 17 e, ne_eqb (h % wide_kinds) 65 f, ne_eqb (h % wide_kinds) 67 g, ne_eqb (h % wide_kinds) 192 i)

-- ---- where words stand: v at `at` in the words s, before `end`
pub record Here (s : List ℕ) (end at : ℕ) (v : List ℕ) : Type 0 where
  pub before : List ℕ
  pub after : List ℕ
  pub stands : s ≡ before ++ (v ++ after)
  pub starts : length before ≡ at
  pub ends : at + length v ≤ end

pub here-left : (s : List ℕ) (end at : ℕ) (v u : List ℕ) → Here s end at (v ++ u) → Here s end at v
here-left s end at v u h = record {
  before = h.before;
  after = u ++ h.after;
  stands = h.stands ∙ ap (λ l. h.before ++ l) (append_assoc v u h.after);
  starts = h.starts;
  ends = omega (arith, h.ends, length-append v u);
}

pub here-right : (s : List ℕ) (end at : ℕ) (v u : List ℕ) (n : ℕ) → n ≡ at + length v → Here s end at (v ++ u) → Here s end n u
here-right s end at v u n e h = record {
  before = h.before ++ v;
  after = h.after;
  stands = h.stands ∙ ap (λ l. h.before ++ l) (append_assoc v u h.after) ∙ sym (append_assoc h.before v (u ++ h.after));
  starts = length-append h.before v ∙ omega (arith, h.starts);
  ends = omega (arith, h.ends, length-append v u);
}

pub here-first : (s : List ℕ) (end at h : ℕ) (v : List ℕ) → Here s end at (h ∷ v) → get_or s at 0 ≡ h
here-first s end at h v k = ap (λ l. get_or l at 0) k.stands ∙ get_or_at k.before h (v ++ k.after) 0 at k.starts

module _ (s : List ℕ) (end at h : ℕ) (a c b : Forest) (here : Here s end at (words (tree h a c b))) where
  pub length-tree : length (words (tree h a c b)) ≡ 1 + length (words a) + length (words c) + length (words b)
  unfolding words
  length-tree = omega (arith, length-append (words a) (words c ++ words b), length-append (words c) (words b))

  pub here-word : get_or s at 0 ≡ h
  unfolding words
  here-word = here-first s end at h (words a ++ (words c ++ words b)) here

  operands : Here s end (at + 1) (words a ++ (words c ++ words b))
  unfolding words
  operands = here-right s end at (h ∷ []) (words a ++ (words c ++ words b)) (at + 1) refl here

  pub here-outer : Here s end (at + 1) (words a)
  here-outer = here-left s end (at + 1) (words a) (words c ++ words b) operands

  pub here-inner : (n : ℕ) → n ≡ at + 1 + length (words a) → Here s end n (words c)
  here-inner n e = here-left s end n (words c) (words b) (here-right s end (at + 1) (words a) (words c ++ words b) n e operands)

  pub here-next : (n : ℕ) → n ≡ at + 1 + length (words a) + length (words c) → Here s end n (words b)
  here-next n e = here-right s end (at + 1 + length (words a)) (words c) (words b) n e (here-right s end (at + 1) (words a) (words c ++ words b) (at + 1 + length (words a)) refl operands)

pub no-tree : (f : Forest) → count f ≡ 0 → f ≡ empty
unfolding count
no-tree empty e = refl
no-tree (tree h a c b) e = absurd (omega arith)

-- what a pass answers of trees whose words end at n
abbrev pub answer : Bool → ℕ → Option ℕ
answer b n = then_some b n

-- the answer tells which it was
pub stopped : (b : Bool) (n : ℕ) → None ≡ answer b n → b ≡ false
stopped true n e = cc
stopped false n e = refl

pub went : (b : Bool) (n m : ℕ) → Some m ≡ answer b n → (b ≡ true) × (m ≡ n)
went true n m e = (refl, same_Some m n e)
went false n m e = cc

pub ruleset laws = (rules, outer-is, inner-is, outer-row, inner-none)
