-- The lines of a script in its words: where each begins, and where its expression does. Assumes nothing.
use Rattle.std.specs.Prelude.{ℕ, ◌+◌, ◌%◌, ◌≤◌, ◌<◌, ◌≡◌, cond, eqb, length, take}
use Rattle.std.proofs.Math.Path.{refl, subst}
use Rattle.std.proofs.Common.{sym, ap, ◌∙◌, rules}
use mathlib.Core.List.{List, [], ◌∷◌, ◌++◌, append-nil}
use native.Mathlib.Omega.{arith}
use borrow.Author.Tests.{eq-eqb, ne_eqb}
use Rattle.std.proofs.Math.ListN.{get_or}
use Rattle.atlite.specs.Term.{Kind}
use Rattle.atlite.specs.Script.{Src, num, null, var, op, let_in, future, fn, when, literal, Line, expression, define}
use Rattle.layout.specs.Numbers.{field_kind}
use Rattle.layout.specs.Pack.{flat}
use Rattle.layout.specs.Terms.{kind_number}
use Rattle.layout.specs.Tables.{src_kind}
use Rattle.words.specs.Wide.{wide_kinds, wide, wide_src, wide_line, wide_lines}
use Rattle.checks.specs.LinesAt.{Stands}
use Rattle.checks.specs.Trees.{empty, words, put, words-put}
use Rattle.checks.specs.Operators.{op-passed}
use Rattle.checks.specs.TreeContract.{Here, here-left, here-right, here-first}

-- ---- an expression's first word is no header
pub record Headed (v : List ℕ) : Type 0 where
  pub word : ℕ
  pub others : List ℕ
  pub is : v ≡ word ∷ others
  pub low : word % wide_kinds < field_kind

headed : (k p : ℕ) (v : List ℕ) → k < field_kind → Headed (wide k p ∷ v)
headed k p v h = record { word = wide k p; others = v; is = refl; low = omega arith }

head-literal : (k : Kind) (p : ℕ) (v : List ℕ) → Headed (wide (kind_number k) p ∷ v)
unfolding kind_number
head-literal Kind.object p v = headed 15 p v (omega arith)
head-literal Kind.isolate p v = headed 16 p v (omega arith)
head-literal Kind.actor p v = headed 17 p v (omega arith)

pub head-src : (e : Src) → Headed (wide_src e)
unfolding wide_src
head-src null = headed 1 0 _ (omega arith)
head-src (num n) = headed 2 n _ (omega arith)
head-src (var x) = headed 6 x _ (omega arith)
head-src (op o es) = headed (src_kind o) _ _ (omega (arith, (op-passed o).below))
head-src (let_in x a b) = headed 11 x _ (omega arith)
head-src (future x y e) = headed 12 _ _ (omega arith)
head-src (literal k fs ms) = head-literal k _ _
head-src (fn x e) = headed 65 x _ (omega arith)
head-src (when a x b) = headed 67 x _ (omega arith)

-- ---- where the expression of a line begins whose first word, at `at`, is h
unfoldable pub start_by : ℕ → ℕ → ℕ
start_by h at = cond (eqb (h % wide_kinds) 130) (at + 1) at

pub record Start (h at r : ℕ) : Type 0 where
  pub is : r ≡ start_by h at
  pub above : at ≤ r
  pub below : r ≤ at + 1

pub start-define : (h at : ℕ) → h % wide_kinds ≡ 130 → Start h at (at + 1)
unfolding start_by
start-define h at e = record { is = rw (eq-eqb (h % wide_kinds) 130 e); above = omega arith; below = omega arith }

pub start-other : (h at : ℕ) → (h % wide_kinds ≡ 130 → ⊥) → Start h at at
unfolding start_by
start-other h at e = record { is = rw (ne_eqb (h % wide_kinds) 130 e); above = omega arith; below = omega arith }

pub ruleset laws = (rules, start-define, start-other)

-- ---- the parts of lines
module _ (s : List ℕ) (end at : ℕ) where
  pub here-words : (e : Src) → Here s end at (wide_src e) → Here s end at (words (put e empty))
  unfolding words
  here-words e h = subst (λ v. Here s end at v) (sym (words-put e empty ∙ append-nil (wide_src e))) h

  module _ (e : Src) (ls : List Line) where
    pub line-src : Here s end at (wide_lines (expression e ∷ ls)) → Here s end at (wide_src e)
    unfolding wide_lines wide_line flat
    line-src h = here-left s end at (wide_src e) (flat wide_line ls) h

    pub line-rest : (n : ℕ) → n ≡ at + length (wide_src e) → Here s end at (wide_lines (expression e ∷ ls)) → Here s end n (wide_lines ls)
    unfolding wide_lines wide_line flat
    line-rest n i h = here-right s end at (wide_src e) (flat wide_line ls) n i h

    pub line-start : Here s end at (wide_lines (expression e ∷ ls)) → start_by (get_or s at 0) at ≡ at
    unfolding start_by
    line-start h =
        let k = head-src e in
        let q : get_or s at 0 ≡ k.word = here-first s end at k.word k.others (subst (λ v. Here s end at v) k.is (line-src h)) in
        rw (q, ne_eqb (k.word % wide_kinds) 130 (λ i. omega (arith, k.low)))

  module _ (x : ℕ) (e : Src) (ls : List Line) (h : Here s end at (wide_lines (define x e ∷ ls))) where
    pub define-word : get_or s at 0 ≡ wide 130 x
    unfolding wide_lines wide_line flat
    define-word = here-first s end at (wide 130 x) (wide_src e ++ flat wide_line ls) h

    behind : Here s end (at + 1) (wide_src e ++ flat wide_line ls)
    unfolding wide_lines wide_line flat
    behind = here-right s end at (wide 130 x ∷ []) (wide_src e ++ flat wide_line ls) (at + 1) refl h

    pub define-src : Here s end (at + 1) (wide_src e)
    define-src = here-left s end (at + 1) (wide_src e) (flat wide_line ls) behind

    pub define-rest : (n : ℕ) → n ≡ at + 1 + length (wide_src e) → Here s end n (wide_lines ls)
    unfolding wide_lines
    define-rest n i = here-right s end (at + 1) (wide_src e) (flat wide_line ls) n i behind

    pub define-start : start_by (get_or s at 0) at ≡ at + 1
    unfolding start_by
    define-start = let q : wide 130 x % wide_kinds ≡ 130 = omega arith in rw (define-word, q)

-- a line has a word
pub not-past : (s : List ℕ) (end at : ℕ) (l : Line) (ls : List Line) → Here s end at (wide_lines (l ∷ ls)) → at < end
not-past s end at (expression e) ls h =
    let k = head-src e in
    omega (arith, (line-src s end at e ls h).ends, ap length k.is)
not-past s end at (define x e) ls h = omega (arith, (define-src s end at x e ls h).ends)

-- all lines
pub here-all : (s : List ℕ) (end lines : ℕ) (ls : List Line) → Stands s end lines ls → Here (take end s) (length (take end s)) 0 (wide_lines ls)
here-all s end lines ls st = record {
  before = [];
  after = [];
  stands = st.here ∙ sym (append-nil (wide_lines ls));
  starts = refl;
  ends = omega (arith, ap length st.here);
}
