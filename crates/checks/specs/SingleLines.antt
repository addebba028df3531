-- That names are single in the lines, one line after another, is that they are in the script that the lines join to. Assumes nothing.
use Rattle.std.specs.Prelude.{ℕ, ◌+◌, ◌-◌, ◌≤◌, ◌≡◌, Bool, true, false, ◌&&◌, Option, Some, None, length, take, get_or}
use Rattle.std.proofs.Math.Path.{refl}
use Rattle.std.proofs.Common.{ap, ◌∙◌, sym, arith, rules}
use Rattle.std.proofs.Math.Bool.{and-true}
use mathlib.Core.List.{List, [], ◌∷◌, append-nil}
use Rattle.atlite.specs.Base.{done}
use Rattle.atlite_laws.specs.Facts.{refused-done}
use Rattle.atlite.specs.Scope.{single}
use Rattle.atlite.specs.Script.{seq, Src, op, let_in, nil, cons, Line, expression, define, join}
use Rattle.atlite.specs.Table.{Grammatical, GrammaticalLines}
use Rattle.layout_laws.specs.Results.{done-same, bind_done}
use Rattle.words.specs.Wide.{wide_src, wide_lines}
use Rattle.checks.specs.LinesAt.{Stands}
use Rattle.checks.specs.Trees.{empty, words, count, put, words-put, count-put}
use Rattle.checks.specs.TreeFits.{fits-put, none}
use Rattle.checks.specs.TreeContract.{Here, answer, stopped, went}
use Rattle.checks.specs.Lines.{Start, here-words, line-src, line-rest, line-start, define-src, define-rest, define-start, not-past, here-all}
use Rattle.checks.specs.Single.{Walked}
use Rattle.checks.specs.SinglePut.{sing-put, sing-none}

unfoldable pub single_lines : List Line → Bool
single_lines [] = true
single_lines (expression e ∷ ls) = single e && single_lines ls
single_lines (define x e ∷ ls) = single e && single_lines ls

-- of lines that stand in the words and join to a script of the grammar, r tells that the script's names are single
unfoldable pub Single : List ℕ → ℕ → ℕ → Bool → Type 0
Single s words lines r = (ls : List Line) (e : Src) (w : ℕ) → Stands s words lines ls → join ls ≡ done e → w ≤ 4000 → GrammaticalLines w ls → r ≡ single e

-- the same of the `left` lines at `at`
unfoldable pub LinesSingle : List ℕ → ℕ → ℕ → ℕ → Bool → Type 0
LinesSingle s end at left r = (ls : List Line) (w : ℕ) → w ≤ 4000 → GrammaticalLines w ls → left ≡ length ls → Here s end at (wide_lines ls) → r ≡ single_lines ls

lines_join : (ls : List Line) (e : Src) → join ls ≡ done e → single_lines ls ≡ single e
unfolding join single_lines single
lines_join [] e j = absurd (refused-done j)
lines_join (expression d ∷ []) e j = and-true (single d) ∙ ap single (done-same d e j)
lines_join (define x d ∷ []) e j = absurd (refused-done j)
lines_join (expression d ∷ l ∷ ls) e j =
    let q = bind_done (join (l ∷ ls)) (λ b. done (op seq (cons d (cons b nil)))) e j in
    ap (λ b. single d && b) (lines_join (l ∷ ls) q.0 q.1 ∙ sym (and-true (single q.0))) ∙ ap single (done-same (op seq (cons d (cons q.0 nil))) e q.2)
lines_join (define x d ∷ l ∷ ls) e j =
    let q = bind_done (join (l ∷ ls)) (λ b. done (let_in x d b)) e j in
    ap (λ b. single d && b) (lines_join (l ∷ ls) q.0 q.1) ∙ ap single (done-same (let_in x d q.0) e q.2)

-- what the walk answers of an expression
walk-src : (s : List ℕ) (end at : ℕ) (m : Option ℕ) (e : Src) (w : ℕ) → w ≤ 4000 → Grammatical w e → Here s end at (wide_src e) → Walked s end at 1 0 m → m ≡ answer (single e) (at + length (wide_src e))
unfolding Walked words count
walk-src s end at m e w l g h k =
    k (put e empty) (fits-put e empty w l g none) (count-put e empty) (here-words s end at e h)
    ∙ ap (λ b. answer b (at + length (words (put e empty)))) (sing-put e empty 0 w l g ∙ ap (λ b. single e && b) sing-none ∙ and-true (single e))
    ∙ ap (λ v. answer (single e) (at + length v)) (words-put e empty ∙ append-nil (wide_src e))

module _ (s : List ℕ) (end at left : ℕ) where
  pub lines_none : left ≡ 0 → LinesSingle s end at left true
  unfolding LinesSingle single_lines
  lines_none z [] w l g n h = refl
  lines_none z (k ∷ ls) w l g n h = absurd (omega arith)

  pub lines-past : (left ≡ 0 → ⊥) → end ≤ at → LinesSingle s end at left false
  unfolding LinesSingle
  lines-past z p [] w l g n h = absurd (z n)
  lines-past z p (k ∷ ls) w l g n h = absurd (omega (arith, not-past s end at k ls h))

  module _ (b : ℕ) (m : Option ℕ) (z : left ≡ 0 → ⊥) (st : Start (get_or s at 0) at b) (k : Walked s end b 1 0 m) where
    of-expression : (e : Src) (ls : List Line) (w : ℕ) → w ≤ 4000 → Grammatical w e → Here s end at (wide_lines (expression e ∷ ls)) → m ≡ answer (single e) (at + length (wide_src e))
    of-expression e ls w l g h =
        let q : b ≡ at = st.is ∙ line-start s end at e ls h in
        walk-src s end at m e w l g (line-src s end at e ls h) (rw q at k)

    of-define : (x : ℕ) (e : Src) (ls : List Line) (w : ℕ) → w ≤ 4000 → Grammatical w e → Here s end at (wide_lines (define x e ∷ ls)) → m ≡ answer (single e) (at + 1 + length (wide_src e))
    of-define x e ls w l g h =
        let q : b ≡ at + 1 = st.is ∙ define-start s end at x e ls h in
        walk-src s end (at + 1) m e w l g (define-src s end at x e ls h) (rw q at k)

  module _ (b : ℕ) (z : left ≡ 0 → ⊥) (st : Start (get_or s at 0) at b) where
    pub lines-fault : Walked s end b 1 0 None → LinesSingle s end at left false
    unfolding LinesSingle single_lines GrammaticalLines
    lines-fault k [] w l g n h = absurd (z n)
    lines-fault k (expression e ∷ ls) w l g n h = rw (stopped (single e) _ (of-expression b None z st k e ls w l g.0 h))
    lines-fault k (define x e ∷ ls) w l g n h = rw (stopped (single e) _ (of-define b None z st k x e ls w l g.1 h))

    pub lines-on : (m : ℕ) (r : Bool) → Walked s end b 1 0 (Some m) → LinesSingle s end m (left - 1) r → LinesSingle s end at left r
    unfolding LinesSingle single_lines GrammaticalLines
    lines-on m r k i [] w l g n h = absurd (z n)
    lines-on m r k i (expression e ∷ ls) w l g n h =
        let y = went (single e) _ m (of-expression b (Some m) z st k e ls w l g.0 h) in
        rw y.0 (i ls w l g.1 (omega arith) (line-rest s end at e ls m y.1 h))
    lines-on m r k i (define x e ∷ ls) w l g n h =
        let y = went (single e) _ m (of-define b (Some m) z st k x e ls w l g.1 h) in
        rw y.0 (i ls w l g.2 (omega arith) (define-rest s end at x e ls h m y.1))

pub single-all : (s : List ℕ) (words lines k : ℕ) (r : Bool) → k ≡ words → LinesSingle (take k s) (length (take k s)) 0 lines r → Single s words lines r
unfolding Single LinesSingle
single-all s words lines k r d i ls e w st j l g = (rw d at i) ls w l g st.count (here-all s words lines ls st) ∙ lines_join ls e j

pub ruleset laws = (rules, lines_none, lines-past, lines-fault, lines-on, single-all)
