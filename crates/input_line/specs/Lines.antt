-- The line that an input begins with, and what the loop that looks for its end has to show: the bytes passed stand before the line that is
-- left. Assumes nothing.
use Rattle.std.specs.Prelude as Code
use Rattle.std.specs.Prelude.{Some, None, Bool, true, false, not, nat_eq, ltb, leb, cond, suc, zero, ℕ, ◌+◌, ◌-◌, ◌≤◌, ◌<◌, ◌≡◌, refl, get_or, if◌then◌else◌}
use Rattle.std.proofs.lemmas.Bool.{false≢true, ltb-true, ltb-false, leb-true, leb-false, eqb-true}
use Rattle.std.proofs.Common.{get_or-take, sym, ◌∙◌, arith, add-one, eq-eqb, ne_eqb, le-leb, length-append, length-drop, drop-cons, take_all, length-take-le}
use Rattle.std.proofs.Math.Path.{ap}
use mathlib.Core.List.{List, [], ◌∷◌, ◌++◌, append_assoc, append-nil}
use Rattle.std.proofs.Math.Option.{Option, none, some}
use Rattle.std.proofs.lemmas.Bool.{lt-leb}
use Rattle.std.proofs.Math.ListN.{length, take, drop, length-take}
use Rattle.std.proofs.Math.Seq.{drop-length, take-suc}
use Rattle.atlite.specs.Program.{Input, longer, split, short}
use Rattle.std.specs.List.{position, position_or_len}
use Rattle.std.proofs.lemmas.List.Sums.{prefix_len_passes, prefix_len_stops}
use Rattle.input_line.specs.Limits.{longest}

-- The line of the input w has n bytes.
pub record Opened (w : List ℕ) (n : ℕ) : Type 0 where
  pub is : short (split w) ≡ some (record { line = take n w; script = drop (n + 1) w })
  pub few : n ≤ longest
  pub inside : n < length w

-- what is answered of the first line
unfoldable pub LineOf : List ℕ → Code.Option ℕ → Type 0
LineOf w (Some n) = Opened w n
LineOf w None = short (split w) ≡ none

pub line-opened : (w : List ℕ) (r : Code.Option ℕ) (n : ℕ) → LineOf w r → r ≡ Some n → Opened w n
unfolding LineOf
line-opened w r n h e = rw e at h

pub line-none : (w : List ℕ) (r : Code.Option ℕ) → LineOf w r → r ≡ None → short (split w) ≡ none
unfolding LineOf
line-none w r h e = rw e at h

-- what is lent of the input behind its line is the script
pub script-lent : (w : List ℕ) (n : ℕ) → take (length w - (n + 1)) (drop (n + 1) w) ≡ drop (n + 1) w
script-lent w n = take_all (length w - (n + 1)) (drop (n + 1) w) (omega (arith, length-drop (n + 1) w))

module _ (w : List ℕ) (n : ℕ) (o : Opened w n) where
  pub line-length : length (take n w) ≡ n
  line-length = length-take-le n w (omega (arith, o.inside))

  pub line-short : length (take n w) ≤ longest
  line-short = omega (arith, line-length, o.few)

-- bytes before the line of an input
unfoldable pub after : List ℕ → Option Input → Option Input
after v none = none
after v (some i) = some (record { line = v ++ i.line; script = i.script })

-- The first i bytes of w are in its line, if it has one.
pub record Looking (w : List ℕ) (i : ℕ) : Type 0 where
  pub passed : i ≤ length w
  pub few : i ≤ longest
  pub left : split w ≡ after (take i w) (split (drop i w))

pub look-starts : (w : List ℕ) → Looking w 0
unfolding after
look-starts w = record { passed = omega arith; few = omega arith; left = go (split w) }
  where
    go : (o : Option Input) → o ≡ after [] o
    go none = refl
    go (some i) = refl

-- ---- the first byte
pub first_byte : (w : List ℕ) (i : ℕ) → i < length w → drop i w ≡ get_or w i 0 ∷ drop (i + 1) w
first_byte w i h = rw (add-one, drop-cons w i 0)

split-end : (b : ℕ) (w : List ℕ) → b ≡ 10 → split (b ∷ w) ≡ some (record { line = []; script = w })
unfolding split
split-end b w e = rw (eq-eqb b 10 e, split)

split-more : (b : ℕ) (w : List ℕ) → (b ≡ 10 → ⊥) → split (b ∷ w) ≡ longer b (split w)
unfolding split
split-more b w n = rw (ne_eqb b 10 n, split)

-- a line that is too long is none
short-long : (v : List ℕ) (o : Option Input) → longest < length v → short (after v o) ≡ none
unfolding short after
short-long v none h = refl
short-long v (some i) h = rw (lt-leb (length (v ++ i.line)) longest (omega (arith, length-append v i.line)))

module _ (w : List ℕ) (i : ℕ) (g : Looking w i) where
  pub look_none : length w ≤ i → LineOf w None
  unfolding LineOf split after short
  look_none h =
      let z : i ≡ length w = omega (arith, g.passed) in
      let d : drop i w ≡ [] = rw z (drop-length w) in
      let e : split w ≡ none = g.left ∙ rw d in
      ap short e

  module _ (h : i < length w) where
    pub look-ends : get_or w i 0 ≡ 10 → LineOf w (Some i)
    unfolding LineOf after short
    look-ends e =
        let s : split w ≡ some (record { line = take i w; script = drop (i + 1) w }) = g.left ∙ rw (first_byte w i h, split-end (get_or w i 0) (drop (i + 1) w) e, append-nil (take i w)) in
        record {
          is = ap short s ∙ rw (le-leb (length (take i w)) longest (omega (arith, length-take i w, g.few)));
          few = g.few;
          inside = h;
        }

    module _ (n : get_or w i 0 ≡ 10 → ⊥) where
      -- one byte more
      more : split w ≡ after (take (i + 1) w) (split (drop (i + 1) w))
      unfolding after longer
      more = g.left ∙ ap (after (take i w)) (ap split (first_byte w i h) ∙ split-more (get_or w i 0) (drop (i + 1) w) n) ∙ go (split (drop (i + 1) w))
        where
          t : take (i + 1) w ≡ take i w ++ (get_or w i 0 ∷ [])
          t = rw (add-one, take-suc w i 0)

          go : (o : Option Input) → after (take i w) (longer (get_or w i 0) o) ≡ after (take (i + 1) w) o
          go none = refl
          go (some j) = ap (λ x. some (record { line = x; script = j.script })) (sym (ap (λ x. x ++ j.line) t ∙ append_assoc (take i w) (get_or w i 0 ∷ []) j.line))

      pub look-long : longest ≤ i → LineOf w None
      unfolding LineOf
      look-long m = ap short more ∙ short-long (take (i + 1) w) (split (drop (i + 1) w)) (omega (arith, length-take (i + 1) w))

      pub look-goes : i < longest → Looking w (i + 1)
      look-goes m = record { passed = omega arith; few = omega arith; left = more }

-- where none of the first i bytes ends a line
looks : (w : List ℕ) (i : ℕ) → i ≤ length w → i ≤ longest → ((k : ℕ) → k < i → get_or w k 0 ≡ 10 → ⊥) → Looking w i
looks w zero h l f = look-starts w
looks w (suc i) h l f =
    let g = looks w i (omega arith) (omega arith) (λ k m. f k (omega arith)) in
    rw (← add-one) (look-goes w i g (omega arith) (f i (omega arith)) (omega arith))

-- the first byte 10, looked for in as many bytes as the longest line and its end have
pub line_found : (w : List ℕ) → LineOf w (position (λ b. nat_eq b 10) (take (longest + 1) w))
line_found w = go (ltb q (length v)) refl
  where
    v : List ℕ
    v = take (longest + 1) w

    p : ℕ → Bool
    p b = nat_eq b 10

    q : ℕ
    q = position_or_len p v

    at : (k : ℕ) → k < length v → get_or v k 0 ≡ get_or w k 0
    at k l = get_or-take (longest + 1) w k 0 (omega (arith, length-take (longest + 1) w))

    before : (k : ℕ) → k < q → k < length v → get_or w k 0 ≡ 10 → ⊥
    before k h l e = false≢true (rw (at k l ∙ e) at (prefix_len_passes (λ x. not (p x)) v k 0 h))

    passes : (b : Bool) → not b ≡ false → b ≡ true
    passes true e = refl
    passes false e = absurd (false≢true (sym e))

    none-in : length v ≤ q → (b : Bool) → leb (length w) longest ≡ b → LineOf w None
    none-in l true e =
        let h : length w ≤ longest = leb-true (length w) longest e in
        look_none w (length w) (looks w (length w) (omega arith) h (λ k m. before k (omega (arith, length-take (longest + 1) w)) (omega (arith, length-take (longest + 1) w)))) (omega arith)
    none-in l false e =
        let h : longest < length w = leb-false (length w) longest e in
        let n = λ (k : ℕ) (m : k ≤ longest). before k (omega (arith, length-take (longest + 1) w)) (omega (arith, length-take (longest + 1) w)) in
        look-long w longest (looks w longest (omega arith) (omega arith) (λ k m. n k (omega arith))) h (n longest (omega arith)) (omega arith)

    go : (c : Bool) → ltb q (length v) ≡ c → LineOf w (cond c (Some q) None)
    go true e =
        let h : q < length v = ltb-true q (length v) e in
        let t = eqb-true (get_or v q 0) 10 (passes (p (get_or v q 0)) (prefix_len_stops (λ x. not (p x)) v 0 h)) in
        look-ends w q (looks w q (omega (arith, length-take (longest + 1) w)) (omega (arith, length-take (longest + 1) w)) (λ k m. before k m (omega arith)))
        (omega (arith, length-take (longest + 1) w)) (sym (at q h) ∙ t)
    go false e = none-in (ltb-false q (length v) e) (leb (length w) longest) refl
