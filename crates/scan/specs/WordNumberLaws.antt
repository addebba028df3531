-- The numbers of words: computed from the last byte to the first, split at 2^64, and different for different words.
-- Assumes nothing.
use Rattle.std.specs.Prelude.{◌≡◌, refl, Bool, true, false, ◌&&◌, ◌||◌, List, [], ◌∷◌, ◌++◌, leb, not, take, drop, Option, Some, None}
use Rattle.std.proofs.Math.Path.{sym, ap}
use Rattle.std.proofs.Common.{ap₂, ◌∙◌, add-zero, mul_assoc, add-one, rules, drop_of_length-le, drop-cons, length-take-le, length-drop, length-take, take_all, take-append-drop, Fits}
use Prim.Native.Nat.{ℕ, zero, suc, ◌+◌, ◌-◌, ◌*◌, ◌^◌, ◌≤◌, ◌<◌}
use Rattle.std.proofs.Math.Nat.{pow-suc, pow-le-pow_right, pow-zero, sub-zero, sub_self, lt_of_lt_of_le, pow-succ'}
use native.Mathlib.Omega.{arith}
use borrow.Author.Tests.{leb-true}
use Rattle.std.proofs.Math.ListN.{length, get_or}
use Rattle.std.proofs.lemmas.List.{get_or-take}
use Rattle.std.specs.Int.{w64, w32}
use Rattle.atlite.specs.Base.{same_bytes, all}
use Rattle.atlite.specs.Lexicon.{Bytes, is_letter, is_digit, in_word, is_word, letter_first, among}
use Rattle.atlite.specs.Keywords.{reserved}
use Rattle.atlite_laws.specs.Facts.{and₂, both₂, same_refl}
use Rattle.layout.specs.Layout.{bytes_number}
use Rattle.reading.specs.Items.{word-parts}
use Rattle.scan.specs.Runs.{index}
use Rattle.scan.specs.Keywords.{same_not}
use Rattle.scan.specs.WordNumbers.{low_part, high_part, Numbered, Holds, Placed, Sought}

module _ (w : Bytes) where
  pub numbered-none : Numbered w (length w) 0
  unfolding bytes_number
  numbered-none = record { is = rw (drop_of_length-le w {i = length w} (omega arith)); fits = rw (sub_self (length w)) (omega arith) }

  module _ (i n : ℕ) (h : length w ≤ 8) (z : 0 < i) (k : i ≤ length w) (p : Numbered w i n) where
    seven : n < 72057594037927936
    seven = lt_of_lt_of_le p.fits (pow-le-pow_right {n = 256} (omega arith) {j = 7} (omega arith))

    pub mul-fits : Fits w64 (n * 256)
    mul-fits = let l = seven in record { fits = omega arith }

    pub add-fits : (b : ℕ) → b < 256 → Fits w64 (n * 256 + b)
    add-fits b q = let l = seven in record { fits = omega arith }

    pub numbered_more : (b : ℕ) → b ≡ get_or w (i - 1) 0 → b < 256 → Numbered w (i - 1) (n * 256 + b)
    unfolding bytes_number
    numbered_more b q m =
        let d : length w - (i - 1) ≡ suc (length w - i) = omega arith in
        let f = p.fits in
        let l : i - 1 < length w = omega arith in
        let e : suc (i - 1) ≡ i = omega arith in
        record {
          is =
              let y : drop (i - 1) w ≡ get_or w (i - 1) 0 ∷ drop i w = drop-cons w (i - 1) 0 l ∙ ap (λ (m : ℕ). get_or w (i - 1) 0 ∷ drop m w) e in
              let x : bytes_number (drop (i - 1) w) ≡ get_or w (i - 1) 0 + 256 * bytes_number (drop i w) = ap bytes_number y in
              omega (arith, p.is);
          fits = rw (d, pow-suc 256 (length w - i)) (omega arith);
        }

  pub numbered-all : (n : ℕ) → Numbered w 0 n → (n ≡ bytes_number w) × (n < 256 ^ length w)
  numbered-all n p = let f = p.fits in (p.is, rw (← sub-zero (length w)) f)

-- ---- two parts
number_append : (v w : Bytes) → bytes_number (v ++ w) ≡ bytes_number v + 256 ^ length v * bytes_number w
unfolding bytes_number
number_append [] w = rw (pow-zero 256) (omega arith)
number_append (b ∷ v) w =
    rw (number_append v w, pow-succ' 256 (length v), mul_assoc 256 (256 ^ length v) (bytes_number w)) (omega arith)

in-range : (b : ℕ) → in_word b ≡ true → (0 < b) × (b < 256)
unfolding in_word is_letter is_digit
in-range b h = go (is_letter b) refl h
  where
    go : (c : Bool) → is_letter b ≡ c → (c || is_digit b) ≡ true → (0 < b) × (b < 256)
    go true e k = let p = and₂ (leb 97 b) (leb b 122) e in let l = leb-true 97 b p.0 in let m = leb-true b 122 p.1 in (omega arith, omega arith)
    go false e k = let p = and₂ (leb 48 b) (leb b 57) k in let l = leb-true 48 b p.0 in let m = leb-true b 57 p.1 in (omega arith, omega arith)

number_bound : (w : Bytes) → all in_word w ≡ true → bytes_number w < 256 ^ length w
unfolding bytes_number all
number_bound [] h = rw (pow-zero 256) (omega arith)
number_bound (b ∷ w) h =
    let p = and₂ (in_word b) (all in_word w) h in
    let r = in-range b p.0 in
    let i = number_bound w p.1 in
    rw (pow-succ' 256 (length w)) (omega arith)

all_left : (v w : Bytes) → all in_word (v ++ w) ≡ true → all in_word v ≡ true
unfolding all
all_left [] w h = refl
all_left (b ∷ v) w h = let p = and₂ (in_word b) (all in_word (v ++ w)) h in both₂ p.0 (all_left v w p.1)

eight : (w : Bytes) → 8 < length w → bytes_number w ≡ bytes_number (take 8 w) + 18446744073709551616 * bytes_number (drop 8 w)
eight w k =
    let l : length (take 8 w) ≡ 8 = length-take-le 8 w (omega arith) in
    let e : 256 ^ length (take 8 w) ≡ 18446744073709551616 = rw l in
    ap bytes_number (sym (take-append-drop 8 w)) ∙ number_append (take 8 w) (drop 8 w) ∙ ap (λ (m : ℕ). bytes_number (take 8 w) + m * bytes_number (drop 8 w)) e

module _ (w : Bytes) where
  pub low-short : (n : ℕ) → length w ≤ 8 → n ≡ bytes_number w → n < 256 ^ length w → n ≡ low_part w
  unfolding low_part
  low-short n k i f = let g = lt_of_lt_of_le f (pow-le-pow_right {n = 256} (omega arith) {j = 8} k) in omega arith

  pub low-long : (n : ℕ) → 8 < length w → n ≡ bytes_number (take 8 w) → n < 256 ^ length (take 8 w) → n ≡ low_part w
  unfolding low_part
  low-long n k i f =
      let l : length (take 8 w) ≡ 8 = length-take-le 8 w (omega arith) in
      let g : n < 256 ^ 8 = rw l at f in
      omega (arith, eight w k)

  pub word-letters : is_word w ≡ true → all in_word w ≡ true
  word-letters u = (word-parts w u).1

  pub word-few : is_word w ≡ true → length w ≤ 12
  unfolding is_word
  word-few u =
      let p = and₂ (letter_first w && all in_word w && leb (length w) 12) (not (among reserved w)) u in
      leb-true (length w) 12 (and₂ (letter_first w && all in_word w) (leb (length w) 12) p.0).1

  module _ (u : all in_word w ≡ true) (few : length w ≤ 12) where
    pub high_fits : (n : ℕ) → 8 < length w → n < 256 ^ length (take (length w - 8) (drop 8 w)) → Fits w32 n
    high_fits n k f = record { fits = lt_of_lt_of_le f (pow-le-pow_right {n = 256} (omega arith) {j = 4} (omega (arith, few, length-drop 8 w, length-take (length w - 8) (drop 8 w)))) }

    pub high-few : length (take (length w - 8) (drop 8 w)) ≤ 8
    high-few = omega (arith, few, length-drop 8 w, length-take (length w - 8) (drop 8 w))

    pub high-short : length w ≤ 8 → 0 ≡ high_part w
    unfolding high_part
    high-short k =
        let b = lt_of_lt_of_le (number_bound w u) (pow-le-pow_right {n = 256} (omega arith) {j = 8} k) in
        omega arith

    pub high-long : (n : ℕ) → 8 < length w → n ≡ bytes_number (take (length w - 8) (drop 8 w)) → n ≡ high_part w
    unfolding high_part
    high-long n k i =
        let l : length (take 8 w) ≡ 8 = length-take-le 8 w (omega arith) in
        let a = all_left (take 8 w) (drop 8 w) (ap (all in_word) (take-append-drop 8 w) ∙ u) in
        let b : bytes_number (take 8 w) < 256 ^ 8 = rw l at (number_bound (take 8 w) a) in
        let z = rw (take_all (length w - 8) (drop 8 w) (omega (arith, length-drop 8 w))) at i in
        omega (arith, eight w k)

-- ---- different words have different numbers
number_same : (v w : Bytes) → all in_word v ≡ true → all in_word w ≡ true → bytes_number v ≡ bytes_number w → v ≡ w
unfolding bytes_number all
number_same [] [] h k e = refl
number_same [] (c ∷ w) h k e =
    let p = and₂ (in_word c) (all in_word w) k in let r = in-range c p.0 in absurd (omega arith)
number_same (b ∷ v) [] h k e =
    let p = and₂ (in_word b) (all in_word v) h in let r = in-range b p.0 in absurd (omega arith)
number_same (b ∷ v) (c ∷ w) h k e =
    let p = and₂ (in_word b) (all in_word v) h in
    let q = and₂ (in_word c) (all in_word w) k in
    let r = in-range b p.0 in
    let s = in-range c q.0 in
    ap₂ {C = Bytes} (λ x y. x ∷ y) (omega arith) (number_same v w p.1 q.1 (omega arith))

-- a word is known by its two parts
parts_same : (v w : Bytes) → is_word v ≡ true → is_word w ≡ true → low_part v ≡ low_part w → high_part v ≡ high_part w → v ≡ w
unfolding low_part high_part
parts_same v w h k l m = number_same v w (word-parts v h).1 (word-parts w k).1 (omega arith)

-- ---- looking a word up
all-at : (ws : List Bytes) (i : ℕ) → all is_word ws ≡ true → i < length ws → is_word (get_or ws i []) ≡ true
unfolding all
all-at [] i h k = absurd (omega arith)
all-at (w ∷ ws) zero h k = (and₂ (is_word w) (all is_word ws) h).0
all-at (w ∷ ws) (suc i) h k = all-at ws i (and₂ (is_word w) (all is_word ws) h).1 (omega arith)

index-step : (ws : List Bytes) (w : Bytes) (i : ℕ) → i < length ws → same_bytes (get_or ws i []) w ≡ false
    → i + index (drop i ws) w ≡ i + 1 + index (drop (i + 1) ws) w
unfolding index
index-step ws w i h e =
    let z : index (drop i ws) w ≡ suc (index (drop (suc i) ws) w) = rw (drop-cons ws i [] h, e) in
    rw (add-one i) (omega arith)

index-hit : (ws : List Bytes) (w : Bytes) (i : ℕ) → i < length ws → same_bytes (get_or ws i []) w ≡ true → i + index (drop i ws) w ≡ i
unfolding index
index-hit ws w i h e = rw (drop-cons ws i [] h, e) (add-zero i)

module _ (low high : List ℕ) (count l h : ℕ) where
  pub sought-none : Sought low high count l h 0
  unfolding Sought
  sought-none ws w s k p q = omega arith

  module _ (i : ℕ) (n : i < count) (u : Sought low high count l h i) where
    pub sought-more : ((get_or low i 0 ≡ l) × (get_or high i 0 ≡ h) → ⊥) → Sought low high count l h (i + 1)
    unfolding Sought
    sought-more z ws w s k p q =
        let m = s.counted in
        u ws w s k p q ∙ index-step ws w i (omega arith) (same_not (get_or ws i []) w (λ x. z
        (s.lows i n ∙ ap low_part x ∙ sym p, s.highs i n ∙ ap high_part x ∙ sym q)))

    pub placed-here : get_or low i 0 ≡ l → get_or high i 0 ≡ h → Placed low high count l h (Some i)
    unfolding Sought Placed
    placed-here a b = (
      n,
      λ ws w s k p q.
          let m = s.counted in
          let x = parts_same (get_or ws i []) w (all-at ws i s.words (omega arith)) k (sym (s.lows i n) ∙ a ∙ p) (sym (s.highs i n) ∙ b ∙ q) in
          sym (u ws w s k p q ∙ index-hit ws w i (omega arith) (ap (λ (v : Bytes). same_bytes v w) x ∙ same_refl w)),
    )

  pub placed-none : Sought low high count l h count → Placed low high count l h None
  unfolding Sought Placed index
  placed-none u ws w s k p q =
      let m = s.counted in
      let z : index (drop count ws) w ≡ 0 = rw (drop_of_length-le ws {i = count} (omega arith)) in
      omega (arith, u ws w s k p q)

-- slices of the first n places hold the words that the arrays hold
module _ (low high low' high' : List ℕ) (n : ℕ) (count : length low' ≡ n) (lows : low' ≡ take n low) (highs : high' ≡ take n high) where
  pub front-holds : (ws : List Bytes) → Holds ws low high n → Holds ws low' high' (length low')
  front-holds ws h = rw (count, lows, highs) (record {
    words = h.words;
    counted = h.counted;
    lows = λ i k. get_or-take n low i 0 k ∙ h.lows i k;
    highs = λ i k. get_or-take n high i 0 k ∙ h.highs i k;
  })

  pub front-placed : (l h : ℕ) (r : Option ℕ) → Placed low' high' (length low') l h r → Placed low high n l h r
  unfolding Placed
  front-placed l h (Some i) p = (rw count at p.0, λ ws w s k x y. p.1 ws w (front-holds ws s) k x y)
  front-placed l h None p = λ ws w s k x y. sym count ∙ p ws w (front-holds ws s) k x y

pub ruleset laws = (rules, numbered-none, numbered-all, mul-fits, add-fits, numbered_more, low-short, low-long, word-letters, word-few, high-few, high_fits, high-short, high-long, sought-none, sought-more, placed-here, placed-none, front-placed)
