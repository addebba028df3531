-- A word has the number that the dictionary gives it. Assumes nothing.
use Rattle.std.specs.Prelude.{◌≡◌, refl, Bool, true, false, List, [], ◌∷◌, ℕ, suc, ◌+◌, ◌-◌, ◌≤◌, ◌<◌, eqb, length, take, drop, if◌then◌else◌, Option, Some, None}
use Rattle.std.proofs.Common.{sym, ap, ◌∙◌, rules, Fits}
use Rattle.std.specs.Int.{w64}
use Rattle.std.proofs.Math.Option.{none, some}
use native.Mathlib.Omega.{arith}
use Rattle.std.proofs.Math.Seq.{slice, length-slice}
use Rattle.atlite.specs.Base.{Base, Result, done, refused, require, or_refuse, ◌>>=◌, ◌>>◌, bytes, same_bytes}
use Rattle.atlite.specs.Lexicon.{Bytes, is_word, place, number_of, dictionary}
use Rattle.atlite.specs.Reader.{eat, after, read_word, spaced, spaced_word}
use Rattle.atlite_laws.specs.Facts.{same_true, same-false-sym}
use Rattle.scan.specs.Runs.{Run, Starts, index}
use Rattle.scan.specs.Keywords.{index-le, slice-take}
use Rattle.scan.specs.WordNumbers.{low_part, high_part, Holds, Placed}
use Rattle.scan.specs.WordNumberLaws.{word-letters, word-few}
use Rattle.scan.specs.DictionaryLaws.{word-nonempty, word-is, not-apply, word_room}
use Rattle.words.specs.Wide.{wide_limit}
use Rattle.lexemes.specs.declared.names.Name.{Name}
use Rattle.lexemes.specs.Atoms.{NameRead, Named, NameOf, SpacedName, worded}

-- ---- places
place-some : (ws : List Bytes) (w : Bytes) (n : ℕ) → index ws w < length ws → place n ws w ≡ some (index ws w + n)
unfolding place index
place-some [] w n h = absurd (omega arith)
place-some (v ∷ ws) w n h = go (same_bytes v w) h (place-some ws w (suc n))
  where
    go : (b : Bool) → (if b then 0 else suc (index ws w)) < suc (length ws)
        → (index ws w < length ws → place (suc n) ws w ≡ some (index ws w + suc n))
        → (if b then some n else place (suc n) ws w) ≡ some ((if b then 0 else suc (index ws w)) + n)
    go true k ih = ap some (omega arith)
    go false k ih = ih (omega arith) ∙ ap some (omega arith)

place_none : (ws : List Bytes) (w : Bytes) (n : ℕ) → index ws w ≡ length ws → place n ws w ≡ none
unfolding place index
place_none [] w n h = refl
place_none (v ∷ ws) w n h = go (same_bytes v w) h (place_none ws w (suc n))
  where
    go : (b : Bool) → (if b then 0 else suc (index ws w)) ≡ suc (length ws) → (index ws w ≡ length ws → place (suc n) ws w ≡ none)
        → (if b then some n else place (suc n) ws w) ≡ none
    go true k ih = absurd (omega arith)
    go false k ih = ih (omega arith)

module _ (t : Bytes) (at e : ℕ) (h : Run t at e) where
  -- the reader on a run
  read-run : (ws : List Bytes)
      → read_word ws (drop at t) ≡ (require 2 (is_word (slice at e t)) >> (or_refuse 2 (number_of ws (slice at e t)) >>= λ x. done (x, drop e t)))
  unfolding read_word
  read-run ws = rw (h.is, h.rest)

  far : is_word (slice at e t) ≡ true → at < e
  far k = omega (arith, word-nonempty (slice at e t) k, length-slice at e t h.within)

  pub word_none : (r : Bool) → r ≡ is_word (slice at e t) → r ≡ false → NameOf t at None
  unfolding NameOf Named require
  word_none r p q = read-run (dictionary t) ∙ rw (sym p ∙ q)

  pub word-apply : (r s : Bool) → r ≡ is_word (slice at e t) → r ≡ true → s ≡ same_bytes (97 ∷ 112 ∷ 112 ∷ 108 ∷ 121 ∷ []) (slice at e t) → s ≡ true
      → NameOf t at (worded 7 e)
  unfolding NameOf Named number_of Base
  word-apply r s p q u v =
      let w = same_true (bytes "apply") (slice at e t) (sym u ∙ v) in
      record { is = read-run (dictionary t) ∙ rw (sym p ∙ q, ← w); far = far (sym p ∙ q); within = h.within; small = omega arith }

  -- the word as the code cuts it out
  abbrev cut : Bytes
  cut = take (e - at) (drop at t)

  pub cut-word : is_word (slice at e t) ≡ true → is_word cut ≡ true
  cut-word k = rw (← slice-take at e t) k

  module _ (low high : List ℕ) (count : ℕ) (s : Holds (dictionary t) low high count) (few : count ≤ 2048) (k : is_word (slice at e t) ≡ true)
      (n : same_bytes (bytes "apply") (slice at e t) ≡ false) where
    pub place_found : (i : ℕ) → Placed low high count (low_part cut) (high_part cut) (Some i) → NameOf t at (worded (i + 8) e)
    unfolding NameOf Named number_of require or_refuse Placed
    place_found i p =
        let d = s.counted in
        let c = p.0 in
        let x : i ≡ index (dictionary t) (slice at e t) = rw (slice-take at e t) (p.1 (dictionary t) cut s (cut-word k) refl refl) in
        record {
          is = read-run (dictionary t) ∙ rw (k, same-false-sym (bytes "apply") (slice at e t) n, place-some (dictionary t) (slice at e t) 8 (omega arith), ← x);
          far = far k;
          within = h.within;
          small = omega arith;
        }

    pub place-missing : Placed low high count (low_part cut) (high_part cut) None → NameOf t at None
    unfolding NameOf Named number_of require or_refuse Placed
    place-missing p =
        let d = s.counted in
        let x : count ≡ index (dictionary t) (slice at e t) = rw (slice-take at e t) (p (dictionary t) cut s (cut-word k) refl refl) in
        let y = index-le (slice at e t) (dictionary t) in
        read-run (dictionary t) ∙ rw (k, same-false-sym (bytes "apply") (slice at e t) n, place_none (dictionary t) (slice at e t) 8 (omega arith))

pub place-fits : (low high : List ℕ) (count l h i : ℕ) → Placed low high count l h (Some i) → count ≤ 2048 → Fits w64 (i + 8)
unfolding Placed
place-fits low high count l h i p k = let c = p.0 in record { fits = omega arith }

-- ---- behind a space
pub eat-starts : (t : Bytes) (at b : ℕ) (r : Bool) → Starts t at (b ∷ []) r → r ≡ true → eat b (drop at t) ≡ done (drop (at + 1) t)
unfolding Starts eat after require
eat-starts t at b r s k = go (drop at t) (rw k at s).0
  where
    go : (i : Bytes) → after (b ∷ []) i ≡ some (drop (at + 1) t) → eat b i ≡ done (drop (at + 1) t)
    go [] e = absurd (let z : ◌≡◌ {A = ℕ} 0 1 = cc in omega arith)
    go (c ∷ i) e = test (eqb b c) e
      where
        test : (x : Bool) → (if x then some i else none) ≡ some (drop (at + 1) t) → (require 2 x >> done i) ≡ done (drop (at + 1) t)
        test true e = cc
        test false e = absurd (let z : ◌≡◌ {A = ℕ} 0 1 = cc in omega arith)

pub eat-not : (t : Bytes) (at b : ℕ) (r : Bool) → Starts t at (b ∷ []) r → r ≡ false → eat b (drop at t) ≡ refused 2
unfolding Starts eat after require
eat-not t at b r s k = go (drop at t) (rw k at s)
  where
    go : (i : Bytes) → after (b ∷ []) i ≡ none → eat b i ≡ refused 2
    go [] e = refl
    go (c ∷ i) e = test (eqb b c) e
      where
        test : (x : Bool) → (if x then some i else none) ≡ none → (require 2 x >> done i) ≡ refused 2
        test true e = absurd (let z : ◌≡◌ {A = ℕ} 0 1 = cc in omega arith)
        test false e = refl

-- the closing bracket, there or not
pub closes : (t : Bytes) (at : ℕ) (r : Bool) → Starts t at (41 ∷ []) r → r ≡ true → after (41 ∷ []) (drop at t) ≡ some (drop (at + 1) t)
unfolding Starts
closes t at r s k = (rw k at s).0

pub open-still : (t : Bytes) (at : ℕ) (r : Bool) → Starts t at (41 ∷ []) r → r ≡ false → after (41 ∷ []) (drop at t) ≡ none
unfolding Starts
open-still t at r s k = rw k at s

pub starts-room : (t : Bytes) (at k : ℕ) (w : Bytes) (r : Bool) → Starts t at w r → r ≡ true → k ≡ length w → at + k ≤ length t
unfolding Starts
starts-room t at k w r s e l = let z = (rw e at s).1 in omega arith

nearer : (t : Bytes) (at b : ℕ) (R Q : Result (ℕ × Bytes)) (r : Option Name) → at ≤ b → Q ≡ R → Named R t b r → Named Q t at r
unfolding Named
nearer t at b R Q (Some x) l e s = let f = s.far in record { is = e ∙ s.is; far = omega arith; within = s.within; small = s.small }
nearer t at b R Q None l e s = e ∙ s

pub spaced-some : (t : Bytes) (at : ℕ) (r : Bool) (a : Option Name) → Starts t at (32 ∷ []) r → r ≡ true → NameOf t (at + 1) a → SpacedName t at a
unfolding NameOf SpacedName spaced_word spaced
spaced-some t at r a s k n = nearer t at (at + 1) _ _ a (omega arith) (rw (eat-starts t at 32 r s k)) n

pub spaced-none : (t : Bytes) (at : ℕ) (r : Bool) → Starts t at (32 ∷ []) r → r ≡ false → SpacedName t at None
unfolding SpacedName Named spaced_word spaced
spaced-none t at r s k = rw (eat-not t at 32 r s k)

-- what was read, and behind a space, by the answer; the number of a word has twelve bits
module _ (t : Bytes) (at : ℕ) where
  pub name-read : (x : Name) → NameOf t at (Some x) → NameRead (read_word (dictionary t) (drop at t)) t at x.number x.end
  unfolding NameOf Named
  name-read x s = s

  pub name-refused : NameOf t at None → read_word (dictionary t) (drop at t) ≡ refused 2
  unfolding NameOf Named
  name-refused s = s

  pub spaced-read : (x : Name) → SpacedName t at (Some x) → NameRead (spaced_word (dictionary t) (drop at t)) t at x.number x.end
  unfolding SpacedName Named
  spaced-read x s = s

  pub spaced-refused : SpacedName t at None → spaced_word (dictionary t) (drop at t) ≡ refused 2
  unfolding SpacedName Named
  spaced-refused s = s

  pub name-small : (x : Name) → NameOf t at (Some x) → x.number < wide_limit
  unfolding NameOf Named
  name-small x s = s.small

  pub name-far : (x : Name) → NameOf t at (Some x) → at < x.end
  unfolding NameOf Named
  name-far x s = s.far

  pub name-within : (x : Name) → NameOf t at (Some x) → x.end ≤ length t
  unfolding NameOf Named
  name-within x s = s.within

  pub spaced-small : (x : Name) → SpacedName t at (Some x) → x.number < wide_limit
  unfolding SpacedName Named
  spaced-small x s = s.small

  pub spaced-far : (x : Name) → SpacedName t at (Some x) → at < x.end
  unfolding SpacedName Named
  spaced-far x s = s.far

  pub spaced-within : (x : Name) → SpacedName t at (Some x) → x.end ≤ length t
  unfolding SpacedName Named
  spaced-within x s = s.within

pub ruleset laws = (rules, word-letters, word-few, word-is, not-apply, word_room, word_none, word-apply, cut-word, place-fits, place_found, place-missing, starts-room, spaced-some, spaced-none)
