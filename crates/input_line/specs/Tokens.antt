-- `replay`: the line of calls. What the loop that reads it has to show: behind a digit the line may end, go on with a digit, or have one
-- space with a digit behind it. Assumes nothing.
use Prim.Native.Nat.{ℕ, ◌+◌, ◌≤◌, ◌<◌}
use Rattle.std.specs.Prelude.{Some, None, ◌≡◌, leb, ◌&&◌, Bool, get_or, set, eqb, if◌then◌else◌}
use Rattle.std.proofs.Math.Path.{refl, ap}
use Rattle.std.proofs.Common.{sym, ◌∙◌, add-one, rules}
use Rattle.std.proofs.Math.Bool.{true, false}
use mathlib.Core.List.{List, [], ◌∷◌}
use Rattle.std.proofs.Math.Option.{Option, none, some}
use native.Mathlib.Omega.{arith}
use borrow.Author.Tests.{leb-true, eq-eqb, ne_eqb, le-leb}
use Rattle.std.proofs.Math.ListN.{length, drop}
use Rattle.std.proofs.Math.Seq.{drop-length}
use Rattle.atlite.specs.Lexicon.{Bytes, is_digit}
use Rattle.atlite.specs.Loops.{entry}
use Rattle.atlite.specs.Replay.{before, between, tokens, digit_calls, token, calls}
use Rattle.input_line.specs.Limits.{longest}
use Rattle.input_line.specs.Lines.{first_byte}
use Rattle.input_line.specs.Entries.{DigitOf, EntriesOf, Reading, read-starts, read-ends, read-fails, read_goes, read_same}

-- the calls of tokens the first of which has begun already
unfoldable pub opened : List Bytes → Option (List ℕ)
opened [] = some []
opened (t ∷ ts) = digit_calls t (calls ts)

-- The calls that are left in the bytes w of a line: a token has begun, behind a digit and where there is nothing, or begins.
unfoldable pub left : Bool → Bytes → Option (List ℕ)
left true w = opened (between w)
left false w = calls (between w)

-- ---- the first byte
module _ (b : ℕ) (l : Bytes) where
  at-space : b ≡ 32 → between (b ∷ l) ≡ [] ∷ between l
  unfolding between
  at-space e = rw (eq-eqb b 32 e, between)

  at_other : (b ≡ 32 → ⊥) → between (b ∷ l) ≡ before b (between l)
  unfolding between
  at_other n = rw (ne_eqb b 32 n, between)

module _ (b : ℕ) where
  is_digit_lem : 48 ≤ b → b ≤ 57 → is_digit b ≡ true
  unfolding is_digit
  is_digit_lem h k = rw (le-leb 48 b h, le-leb b 57 k)

  opened-before : (ts : List Bytes) → opened (before b ts) ≡ calls (before b ts)
  unfolding opened before calls token
  opened-before [] = refl
  opened-before (t ∷ ts) = refl

  digit-before : is_digit b ≡ true → (ts : List Bytes) → calls (before b ts) ≡ entry b (opened ts)
  unfolding opened before calls token digit_calls
  digit-before e [] = rw e
  digit-before e (t ∷ ts) = rw e

  other-before : is_digit b ≡ false → (ts : List Bytes) → calls (before b ts) ≡ none
  unfolding before calls token digit_calls
  other-before e [] = rw e
  other-before e (t ∷ ts) = rw e

  -- a token begins with a digit
  none_other : is_digit b ≡ false → (l : Bytes) → calls (between (b ∷ l)) ≡ none
  unfolding between calls token
  none_other e l = go (eqb b 32)
    where
      go : (c : Bool) → calls (if c then [] ∷ between l else before b (between l)) ≡ none
      go true = refl
      go false = other-before e (between l)

  more-digit : 48 ≤ b → b ≤ 57 → (l : Bytes) → calls (between (b ∷ l)) ≡ entry b (opened (between l))
  more-digit h k l = ap calls (at_other b l (omega arith)) ∙ digit-before (is_digit_lem h k) (between l)

-- one byte more
module _ (c : Bool) (b : ℕ) (w : Bytes) where
  -- in a token its bytes are judged as at its begin, but for a space
  left-begins : (b ≡ 32 → ⊥) → left c (b ∷ w) ≡ left false (b ∷ w)
  unfolding left
  left-begins n = go c
    where
      go : (c : Bool) → left c (b ∷ w) ≡ left false (b ∷ w)
      go true = rw (at_other b w n) (opened-before b (between w))
      go false = refl

  left-digit : 48 ≤ b → b ≤ 57 → left c (b ∷ w) ≡ entry b (left true w)
  unfolding left
  left-digit h k = left-begins (omega arith) ∙ more-digit b h k w

  left-none : (b ≡ 32 → c ≡ true → ⊥) → (48 ≤ b → b ≤ 57 → ⊥) → left c (b ∷ w) ≡ none
  unfolding left is_digit
  left-none n h = go c n
    where
      both : (x y : Bool) → leb 48 b ≡ x → leb b 57 ≡ y → (x && y) ≡ false
      both true true e f = absurd (h (leb-true 48 b e) (leb-true b 57 f))
      both true false e f = refl
      both false y e f = refl

      digitless : is_digit b ≡ false
      digitless = both (leb 48 b) (leb b 57) refl refl

      go : (c : Bool) → (b ≡ 32 → c ≡ true → ⊥) → left c (b ∷ w) ≡ none
      go true n = rw (at_other b w (λ e. n e refl)) (opened-before b (between w) ∙ other-before b digitless (between w))
      go false n = none_other b digitless w

left-space : (b : ℕ) (w : Bytes) → b ≡ 32 → left true (b ∷ w) ≡ left false w
unfolding left opened digit_calls
left-space b w e = ap opened (at-space b w e)

-- ---- the loop
-- Of the line l the first i bytes have been read: n calls, which stand in front of xs; c says whether the last token is complete.
pub record Noting (l xs : List ℕ) (n : ℕ) (c : Bool) (i : ℕ) : Type 0 where
  pub passed : i ≤ length l
  pub short : length l ≤ longest
  pub few : n ≤ i
  pub read : Reading (calls (tokens l)) (left c (drop i l)) xs n

module _ (l xs : List ℕ) where
  pub note-starts : length l ≤ longest → length xs ≡ longest → (c : Bool) → c ≡ eqb (length l) 0 → Noting l xs 0 c 0
  unfolding left opened tokens between calls digit_calls
  note-starts h z c e = record { passed = omega arith; short = h; few = omega arith; read = read_same _ _ xs 0 (read-starts (calls (tokens l)) xs z) _ (go l c e) }
    where
      go : (l : List ℕ) (c : Bool) → c ≡ eqb (length l) 0 → calls (tokens l) ≡ left c l
      go [] c e = rw e
      go (b ∷ w) c e = rw (e, ne_eqb (length (b ∷ w)) 0 (omega arith)) refl

module _ (l xs : List ℕ) (n : ℕ) (c : Bool) (i : ℕ) (g : Noting l xs n c i) where
  -- nothing is left
  ended : length l ≤ i → drop i l ≡ []
  ended h = let z : i ≡ length l = omega (arith, g.passed) in rw z (drop-length l)

  pub note-ends : length l ≤ i → c ≡ true → EntriesOf (calls (tokens l)) xs (Some n)
  unfolding left opened between calls digit_calls
  note-ends h e = read-ends (calls (tokens l)) (left c (drop i l)) xs n g.read (rw (e, ended h))

  pub note-cut : length l ≤ i → c ≡ false → EntriesOf (calls (tokens l)) xs None
  unfolding left between calls token
  note-cut h e = read-fails (calls (tokens l)) (left c (drop i l)) xs n g.read (rw (e, ended h))

  module _ (h : i < length l) where
    here : left c (drop i l) ≡ left c (get_or l i 0 ∷ drop (i + 1) l)
    here = ap (left c) (first_byte l i h)

    pub note-other : (get_or l i 0 ≡ 32 → c ≡ true → ⊥) → DigitOf (get_or l i 0) 57 None → EntriesOf (calls (tokens l)) xs None
    note-other a b = read-fails (calls (tokens l)) (left c (drop i l)) xs n g.read (here ∙ left-none c (get_or l i 0) (drop (i + 1) l) a b)

    pub note-space : get_or l i 0 ≡ 32 → c ≡ true → Noting l xs n false (i + 1)
    note-space a e = record {
      passed = omega arith;
      short = g.short;
      few = omega (arith, g.few);
      read = read_same (calls (tokens l)) (left c (drop i l)) xs n g.read _ (here ∙ rw e (left-space (get_or l i 0) (drop (i + 1) l) a));
    }

    pub note-goes : (d : ℕ) → DigitOf (get_or l i 0) 57 (Some d) → Noting l (set xs n d) (n + 1) true (i + 1)
    note-goes d k = record {
      passed = omega arith;
      short = g.short;
      few = omega (arith, g.few);
      read =
          read_goes (calls (tokens l)) (left c (drop i l)) xs n g.read (get_or l i 0) d (left true (drop (i + 1) l)) k.2
          (here ∙ left-digit c (get_or l i 0) (drop (i + 1) l) k.0 k.1) (omega (arith, g.few, g.short));
    }

pub ruleset reading = (rules, note-starts, note-ends, note-cut, note-other, note-space, note-goes)
