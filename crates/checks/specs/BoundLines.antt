-- That variables are bound in the lines, each under the words that the lines before it define, is that they are in the script that the
-- lines join to. Assumes nothing.
use Rattle.std.specs.Prelude.{ℕ, ◌+◌, ◌-◌, ◌/◌, ◌%◌, ◌≤◌, ◌≡◌, Bool, true, false, ◌&&◌, Option, Some, None, length, take, replicate}
use Rattle.std.proofs.Math.Path.{refl, sym, ap}
use Rattle.std.proofs.Common.{◌∙◌, arith, rules, set-set}
use Rattle.std.proofs.Math.Bool.{and-true}
use mathlib.Core.List.{List, [], ◌∷◌, append-nil}
use Rattle.std.proofs.Math.ListN.{get_or, set}
use Rattle.std.proofs.lemmas.List.{set-get_or}
use Rattle.atlite.specs.Base.{done}
use Rattle.atlite_laws.specs.Facts.{refused-done}
use Rattle.atlite.specs.Scope.{bound}
use Rattle.atlite.specs.Script.{seq, Src, op, let_in, nil, cons, Line, expression, define, join}
use Rattle.atlite.specs.Table.{Grammatical, GrammaticalLines}
use Rattle.layout_laws.specs.Results.{done-same, bind_done}
use Rattle.words.specs.Wide.{wide_kinds, wide, wide_src, wide_lines, wide_limit}
use Rattle.checks.specs.Names.{Name, named}
use Rattle.checks.specs.LinesAt.{Stands}
use Rattle.checks.specs.Trees.{empty, words, count, put, words-put, count-put}
use Rattle.checks.specs.TreeFits.{fits-put, none}
use Rattle.checks.specs.TreeContract.{Here, answer, stopped, went}
use Rattle.checks.specs.Lines.{start_by, here-words, line-src, line-rest, line-start, define-word, define-src, define-rest, not-past, here-all}
use Rattle.checks.specs.Scope.{Swapped, Kept, kept}
use Rattle.checks.specs.Bound.{Scanned}
use Rattle.checks.specs.BoundPut.{ok-put, ok-none}
use Rattle.checks.specs.Levels.{Levels, at-start, bound-one}

unfoldable pub bound_lines : List ℕ → List Line → Bool
bound_lines xs [] = true
bound_lines xs (expression e ∷ ls) = bound xs e && bound_lines xs ls
bound_lines xs (define x e ∷ ls) = bound xs e && bound_lines (x ∷ xs) ls

-- of lines that stand in the words and join to a script of the grammar, r tells that the script's variables are bound
unfoldable pub AllBound : List ℕ → ℕ → ℕ → Bool → Type 0
AllBound s words lines r = (ls : List Line) (e : Src) (w : ℕ) → Stands s words lines ls → join ls ≡ done e → w ≤ 4000 → GrammaticalLines w ls → r ≡ bound [] e

-- the same of the `left` lines at `at`, under the words that the levels stand for
unfoldable pub LinesBound : List ℕ → ℕ → ℕ → ℕ → ℕ → List ℕ → Bool → Type 0
LinesBound s end at left l L r =
    (ls : List Line) (w : ℕ) (xs : List ℕ) → w ≤ 4000 → GrammaticalLines w ls → left ≡ length ls → Here s end at (wide_lines ls) → Levels L 0 l xs → r ≡ bound_lines xs ls

lines_join : (ls : List Line) (e : Src) (xs : List ℕ) → join ls ≡ done e → bound_lines xs ls ≡ bound xs e
unfolding join bound_lines bound
lines_join [] e xs j = absurd (refused-done j)
lines_join (expression d ∷ []) e xs j = and-true (bound xs d) ∙ ap (bound xs) (done-same d e j)
lines_join (define x d ∷ []) e xs j = absurd (refused-done j)
lines_join (expression d ∷ l ∷ ls) e xs j =
    let q = bind_done (join (l ∷ ls)) (λ b. done (op seq (cons d (cons b nil)))) e j in
    ap (λ b. bound xs d && b) (lines_join (l ∷ ls) q.0 xs q.1 ∙ sym (and-true (bound xs q.0))) ∙ ap (bound xs) (done-same (op seq (cons d (cons q.0 nil))) e q.2)
lines_join (define x d ∷ l ∷ ls) e xs j =
    let q = bind_done (join (l ∷ ls)) (λ b. done (let_in x d b)) e j in
    ap (λ b. bound xs d && b) (lines_join (l ∷ ls) q.0 (x ∷ xs) q.1) ∙ ap (bound xs) (done-same (let_in x d q.0) e q.2)

-- what the scan answers of an expression
scan-src : (s : List ℕ) (end at l : ℕ) (L : List ℕ) (m : Option ℕ) (e : Src) (w : ℕ) (xs : List ℕ) → w ≤ 4000 → Grammatical w e → Here s end at (wide_src e) → Levels L 0 l xs → Scanned s end at 1 0 l L m
    → m ≡ answer (bound xs e) (at + length (wide_src e))
unfolding Scanned words count
scan-src s end at l L m e w xs k g h v i =
    i (put e empty) (fits-put e empty w k g none) (count-put e empty) (here-words s end at e h)
    ∙ ap (λ b. answer b (at + length (words (put e empty)))) (ok-put e empty L 0 l xs w k g v ∙ ap (λ b. bound xs e && b) (ok-none L 0 l) ∙ and-true (bound xs e))
    ∙ ap (λ v. answer (bound xs e) (at + length v)) (words-put e empty ∙ append-nil (wide_src e))

name_back : (w x : ℕ) → w ≤ 4000 → Name w x → wide 130 x / wide_kinds % wide_limit ≡ x
name_back w x k h =
    let a : wide 130 x / wide_kinds ≡ x = omega arith in
    rw a (omega (arith, h.below))

module _ (s : List ℕ) (end at left l : ℕ) (L : List ℕ) where
  pub lines_none : left ≡ 0 → LinesBound s end at left l L true
  unfolding LinesBound bound_lines
  lines_none z [] w xs k g n h v = refl
  lines_none z (d ∷ ls) w xs k g n h v = absurd (omega arith)

  pub lines-past : (left ≡ 0 → ⊥) → end ≤ at → LinesBound s end at left l L false
  unfolding LinesBound
  lines-past z p [] w xs k g n h v = absurd (z n)
  lines-past z p (d ∷ ls) w xs k g n h v = absurd (omega (arith, not-past s end at d ls h))

  -- the first word tells which line it is
  expression-kind : (e : Src) (ls : List Line) → Here s end at (wide_lines (expression e ∷ ls)) → get_or s at 0 % wide_kinds ≡ 130 → ⊥
  unfolding start_by
  expression-kind e ls h c = let d : start_by (get_or s at 0) at ≡ at + 1 = rw c in omega (arith, sym (line-start s end at e ls h) ∙ d)

  define-kind : (x : ℕ) (e : Src) (ls : List Line) → Here s end at (wide_lines (define x e ∷ ls)) → (get_or s at 0 % wide_kinds ≡ 130 → ⊥) → ⊥
  define-kind x e ls h c = c (ap (λ j. j % wide_kinds) (define-word s end at x e ls h) ∙ omega arith)

  module _ (z : left ≡ 0 → ⊥) (c : get_or s at 0 % wide_kinds ≡ 130 → ⊥) where
    pub lines-fault : Scanned s end at 1 0 l L None → LinesBound s end at left l L false
    unfolding LinesBound bound_lines GrammaticalLines
    lines-fault i [] w xs k g n h v = absurd (z n)
    lines-fault i (expression e ∷ ls) w xs k g n h v = rw (stopped (bound xs e) _ (scan-src s end at l L None e w xs k g.0 (line-src s end at e ls h) v i))
    lines-fault i (define x e ∷ ls) w xs k g n h v = absurd (define-kind x e ls h c)

    pub lines-on : (m : ℕ) (r : Bool) (L₁ : List ℕ) → Scanned s end at 1 0 l L (Some m) → Kept L L₁ → LinesBound s end m (left - 1) l L₁ r → LinesBound s end at left l L r
    unfolding LinesBound bound_lines GrammaticalLines Kept
    lines-on m r L₁ i e₁ j [] w xs k g n h v = absurd (z n)
    lines-on m r L₁ i e₁ j (expression e ∷ ls) w xs k g n h v =
        let y = went (bound xs e) _ m (scan-src s end at l L (Some m) e w xs k g.0 (line-src s end at e ls h) v i) in
        rw y.0 (j ls w xs k g.1 (omega arith) (line-rest s end at e ls m y.1 h) (rw e₁ v))
    lines-on m r L₁ i e₁ j (define x e ∷ ls) w xs k g n h v = absurd (define-kind x e ls h c)

  module _ (z : left ≡ 0 → ⊥) (c : get_or s at 0 % wide_kinds ≡ 130) where
    pub define-fault : Scanned s end (at + 1) 1 0 l L None → LinesBound s end at left l L false
    unfolding LinesBound bound_lines GrammaticalLines
    define-fault i [] w xs k g n h v = absurd (z n)
    define-fault i (expression e ∷ ls) w xs k g n h v = absurd (expression-kind e ls h c)
    define-fault i (define x e ∷ ls) w xs k g n h v = rw (stopped (bound xs e) _ (scan-src s end (at + 1) l L None e w xs k g.1 (define-src s end at x e ls h) v i))

    pub define-on : (m : ℕ) (r : Bool) (L₁ L₂ : List ℕ) (o : ℕ) → Scanned s end (at + 1) 1 0 l L (Some m) → Kept L L₁ → Swapped L₁ (get_or s at 0 / wide_kinds % wide_limit) (l + 1) L₂ o → LinesBound s end m (left - 1) (l + 1) L₂ r → LinesBound s end at left l L r
    unfolding LinesBound bound_lines GrammaticalLines Kept
    define-on m r L₁ L₂ o i e₁ p j [] w xs k g n h v = absurd (z n)
    define-on m r L₁ L₂ o i e₁ p j (expression e ∷ ls) w xs k g n h v = absurd (expression-kind e ls h c)
    define-on m r L₁ L₂ o i e₁ p j (define x e ∷ ls) w xs k g n h v =
        let y = went (bound xs e) _ m (scan-src s end (at + 1) l L (Some m) e w xs k g.1 (define-src s end at x e ls h) v i) in
        let hx = named w x g.0 in
        let q : get_or s at 0 / wide_kinds % wide_limit ≡ x = ap (λ i. i / wide_kinds % wide_limit) (define-word s end at x e ls h) ∙ name_back w x k hx in
        let e₂ : L₂ ≡ set L x (l + 1) = p.new ∙ rw (q, e₁) in
        rw y.0 (j ls w (x ∷ xs) k g.2 (omega arith) (define-rest s end at x e ls h m y.1) (rw e₂ (bound-one L 0 l xs x (l + 1) (omega (arith, hx.below)) (omega arith) (omega arith) v)))

pub define-kept : (L L₁ L₂ L₃ L₄ : List ℕ) (x v o u : ℕ) → Kept L L₁ → Swapped L₁ x v L₂ o → Kept L₂ L₃ → Swapped L₃ x o L₄ u → Kept L L₄
unfolding Kept
define-kept L L₁ L₂ L₃ L₄ x v o u a p b q =
    q.new ∙ rw (b, p.new, p.old) (set-set L₁ x v (get_or L₁ x 0) ∙ set-get_or L₁ x 0) ∙ a

pub kept-twice : (L L₁ L₂ : List ℕ) → Kept L L₁ → Kept L₁ L₂ → Kept L L₂
unfolding Kept
kept-twice L L₁ L₂ a b = b ∙ a

pub all-bound : (s : List ℕ) (words lines k : ℕ) (L : List ℕ) (r : Bool) → L ≡ replicate 4096 0 → k ≡ words → LinesBound (take k s) (length (take k s)) 0 lines 0 L r → AllBound s words lines r
unfolding AllBound LinesBound
all-bound s words lines k₁ L r z d i ls e w st j k g = (rw d at i) ls w [] k g st.count (here-all s words lines ls st) (at-start L z) ∙ lines_join ls e [] j

pub ruleset laws = (rules, kept, lines_none, lines-past, lines-fault, lines-on, define-fault, define-on, define-kept, kept-twice)

pub ruleset all_laws = (rules, all-bound)
