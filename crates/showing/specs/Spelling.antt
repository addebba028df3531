-- The words that a dictionary spells are its script's. By induction on a word's letters, four of which stand in one machine word,
-- and on the dictionary, three machine words for each of its own. Assumes nothing.
use Rattle.std.specs.Prelude.{◌≡◌, Bool, true, false, ltb, length}
use Rattle.std.proofs.Math.Path.{refl, ap}
use Rattle.std.proofs.Common.{sym, ◌∙◌, subst as transp}
use mathlib.Core.List.{List, [], ◌∷◌, ◌++◌, append_assoc, append-nil}
use Prim.Native.Nat.{ℕ, zero, suc, ◌+◌, ◌-◌, ◌*◌, ◌/◌, ◌%◌, ◌≤◌, ◌<◌}
use native.Mathlib.Omega.{arith}
use borrow.Author.Tests.{lt-ltb, le-ltb, ne_eqb, ltb-true, ltb-false}
use Rattle.std.proofs.Math.ListN.{get_or, get_or-eq_default}
use Rattle.atlite.specs.Base.{bytes}
use Rattle.atlite.specs.Lexicon.{Bytes}
use Rattle.atlite.specs.Printer.{print_word, known}
use Rattle.layout.specs.Numbers.{no_name}
use Rattle.layout.specs.Pack.{zeros, flat}
use Rattle.layout_laws.specs.PackLaws.{Each, pack-low, pack-high}
use Rattle.layout.specs.Layout.{bytes_number, three_words, encode_word}
use Rattle.layout_laws.specs.StateReads.{ByteFits, WordFits}
use Rattle.layout_laws.specs.Bits.{word_small}
use Rattle.showing.specs.TextOfWords.{letter_in, letters_in, known_in, word_in}

-- ---- one word
-- at most k letters, the first lowest
letters_of : ℕ → ℕ → Bytes
letters_of zero n = []
letters_of (suc k) n = letter_in (n % 256) ++ letters_of k (n / 256)

letters-zero : (k : ℕ) → letters_of k 0 ≡ []
unfolding letters_of letter_in
letters-zero zero = refl
letters-zero (suc k) = letters-zero k

letters-back : (k : ℕ) (w : Bytes) → length w ≤ k → Each ByteFits w → letters_of k (bytes_number w) ≡ w
unfolding letters_of letter_in bytes_number
letters-back k [] l h = letters-zero k
letters-back zero (b ∷ w) l h = absurd (omega arith)
letters-back (suc k) (b ∷ w) l h =
    let i : b < 256 = h.0.1 in
    rw (pack-low 256 b (bytes_number w) i, pack-high 256 b (bytes_number w) i, ne_eqb b 0 (λ e. omega (arith, h.0.0)))
    (ap {B = Bytes} (λ v. b ∷ v) (letters-back k w (omega arith) h.1))

four : (v a b c d : ℕ) → v % 256 ≡ a → v / 256 % 256 ≡ b → v / 65536 % 256 ≡ c → v / 16777216 ≡ d
    → letters_in v ≡ letter_in a ++ (letter_in b ++ (letter_in c ++ letter_in d))
unfolding letters_in
four v a b c d e f g h = rw (e, f, g, h)

-- four letters off the front
letters-front : (k n : ℕ) → letters_of (suc (suc (suc (suc k)))) n ≡ letters_in (n % 4294967296) ++ letters_of k (n / 4294967296)
unfolding letters_of
letters-front k n =
    let m = n % 4294967296 in
    let z : n / 256 / 256 / 256 / 256 ≡ n / 4294967296 = omega arith in
    let q : letters_in m ≡ _ = four m (n % 256) (n / 256 % 256) (n / 256 / 256 % 256) (n / 256 / 256 / 256 % 256) (omega arith) (omega arith) (omega arith) (omega arith) in
    rw (q, z) (sym (simp append_assoc))

letters-last : (n : ℕ) → n < 4294967296 → letters_of 4 n ≡ letters_in n
unfolding letters_of
letters-last n h =
    let q : letters_in n ≡ _ = four n (n % 256) (n / 256 % 256) (n / 256 / 256 % 256) (n / 256 / 256 / 256 % 256) refl refl (omega arith) (omega arith) in
    rw q (simp append-nil)

pub entry-word : (w : Bytes) → WordFits w → letters_in (get_or (encode_word w) 0 0) ++ (letters_in (get_or (encode_word w) 1 0) ++ letters_in (get_or (encode_word w) 2 0)) ≡ w
unfolding encode_word three_words
entry-word w h =
    let n = bytes_number w in
    let q = n / 4294967296 in
    let l : q / 4294967296 < 4294967296 = (word_small w h).1.1.0 in
    sym (letters-front 8 n ∙ ap {B = Bytes} (λ v. letters_in (n % 4294967296) ++ v)
    (letters-front 4 q ∙ ap {B = Bytes} (λ v. letters_in (q % 4294967296) ++ v) (letters-last (q / 4294967296) l)))
    ∙ letters-back 12 w h.0 h.1

-- ---- the dictionary
three-at : (a b c : ℕ) (l : List ℕ) (i : ℕ) → i < 3 → get_or (a ∷ b ∷ c ∷ l) i 0 ≡ get_or (a ∷ b ∷ c ∷ []) i 0
three-at a b c l zero h = refl
three-at a b c l (suc zero) h = refl
three-at a b c l (suc (suc zero)) h = refl
three-at a b c l (suc (suc (suc i))) h = absurd (omega arith)

zeros-at : (n : ℕ) (r : List ℕ) (i : ℕ) → i < n → get_or (zeros n ++ r) i 0 ≡ 0
unfolding zeros
zeros-at zero r i h = absurd (omega arith)
zeros-at (suc n) r zero h = refl
zeros-at (suc n) r (suc i) h = zeros-at n r i (omega arith)

no-entry : (k i : ℕ) → i < 3 → get_or (encode_word (get_or [] k [])) i 0 ≡ 0
unfolding encode_word three_words bytes_number
no-entry zero zero h = refl
no-entry zero (suc zero) h = refl
no-entry zero (suc (suc zero)) h = refl
no-entry zero (suc (suc (suc i))) h = absurd (omega arith)
no-entry (suc k) zero h = refl
no-entry (suc k) (suc zero) h = refl
no-entry (suc k) (suc (suc zero)) h = refl
no-entry (suc k) (suc (suc (suc i))) h = absurd (omega arith)

-- an entry of the dictionary, or the zeros behind it
pub entry_at : (ws : List Bytes) (n : ℕ) (r : List ℕ) (k i : ℕ) → 3 * k + i < 3 * length ws + n → i < 3
    → get_or (flat encode_word ws ++ (zeros n ++ r)) (3 * k + i) 0 ≡ get_or (encode_word (get_or ws k [])) i 0
unfolding flat encode_word three_words
entry_at [] n r k i h l = zeros-at n r (3 * k + i) (omega arith) ∙ sym (no-entry k i l)
entry_at (w ∷ ws) n r zero i h l =
    let z : 3 * 0 + i ≡ i = omega arith in
    let b = bytes_number w in
    ap (λ j. get_or (flat encode_word (w ∷ ws) ++ (zeros n ++ r)) j 0) z
    ∙ three-at (b % 4294967296) (b / 4294967296 % 4294967296) (b / 4294967296 / 4294967296) (flat encode_word ws ++ (zeros n ++ r)) i l
entry_at (w ∷ ws) n r (suc k) i h l =
    let z : 3 * suc k + i ≡ suc (suc (suc (3 * k + i))) = omega arith in
    ap (λ j. get_or (flat encode_word (w ∷ ws) ++ (zeros n ++ r)) j 0) z ∙ entry_at ws n r k i (omega arith) l

each_at : (ws : List Bytes) (k : ℕ) → Each WordFits ws → WordFits (get_or ws k [])
each_at [] zero h = (omega arith, h)
each_at [] (suc k) h = (omega arith, h)
each_at (w ∷ ws) zero h = h.0
each_at (w ∷ ws) (suc k) h = each_at ws k h.1

-- The words t spell those of ws: from the third on they are a dictionary with room for 64, and zeros behind its last word.
pub record Spells (t : List ℕ) (ws : List Bytes) : Type 0 where
  pub few : length ws ≤ 64
  pub fit : Each WordFits ws
  pub entries : (k i : ℕ) → k < 64 → i < 3 → get_or t (2 + (3 * k + i)) 0 ≡ get_or (encode_word (get_or ws k [])) i 0

module _ (t : List ℕ) (ws : List Bytes) (s : Spells t ws) where
  word-later : (k : ℕ) → k < 64 → word_in t (8 + k) ≡ print_word ws (8 + k)
  unfolding word_in print_word
  word-later k l =
      let at : (i : ℕ) → i < 3 → (j : ℕ) → j ≡ 2 + (3 * k + i) → get_or t j 0 ≡ get_or (encode_word (get_or ws k [])) i 0 =
      λ i b j e. ap (λ j. get_or t j 0) e ∙ s.entries k i l b in
      let z : (8 + k) - 8 ≡ k = omega arith in
      rw (le-ltb (8 + k) 8 (omega arith), z, lt-ltb (8 + k) 72 (omega arith), at 0 (omega arith) (3 * (8 + k) - 22) (omega arith), at 1 (omega arith) (3 * (8 + k) - 21) (omega arith), at 2 (omega arith) (3 * (8 + k) - 20) (omega arith))
      (entry-word (get_or ws k []) (each_at ws k s.fit))

  word-past : (k : ℕ) → 64 ≤ k → (word_in t (8 + k) ≡ []) × (print_word ws (8 + k) ≡ [])
  unfolding word_in print_word
  word-past k l =
      let z : (8 + k) - 8 ≡ k = omega arith in
      (rw (le-ltb (8 + k) 8 (omega arith), le-ltb (8 + k) 72 (omega arith)), rw (le-ltb (8 + k) 8 (omega arith), z) (get_or-eq_default ws [] (omega (arith, s.few))))

  word_first : (x : ℕ) → x < 8 → word_in t x ≡ print_word ws x
  unfolding word_in print_word known_in known bytes
  word_first zero h = refl
  word_first (suc zero) h = refl
  word_first (suc (suc zero)) h = refl
  word_first (suc (suc (suc zero))) h = refl
  word_first (suc (suc (suc (suc zero)))) h = refl
  word_first (suc (suc (suc (suc (suc zero))))) h = refl
  word_first (suc (suc (suc (suc (suc (suc zero)))))) h = refl
  word_first (suc (suc (suc (suc (suc (suc (suc zero))))))) h = refl
  word_first (suc (suc (suc (suc (suc (suc (suc (suc x)))))))) h = absurd (omega arith)

  -- every number's word
  pub spelt : (x : ℕ) → word_in t x ≡ print_word ws x
  spelt x = go (ltb x 8) (ltb (x - 8) 64) refl refl
    where
      go : (b c : Bool) → ltb x 8 ≡ b → ltb (x - 8) 64 ≡ c → word_in t x ≡ print_word ws x
      go true c e f = word_first x (ltb-true x 8 e)
      go false true e f =
          let i = ltb-false x 8 e in
          let z : 8 + (x - 8) ≡ x = omega arith in
          transp (λ y. word_in t y ≡ print_word ws y) z (word-later (x - 8) (ltb-true (x - 8) 64 f))
      go false false e f =
          let i = ltb-false x 8 e in
          let z : 8 + (x - 8) ≡ x = omega arith in
          let p = word-past (x - 8) (ltb-false (x - 8) 64 f) in
          transp (λ y. word_in t y ≡ print_word ws y) z (p.0 ∙ sym p.1)

  -- an empty place
  pub unspelt : word_in t no_name ≡ []
  unspelt = (word-past 119 (omega arith)).0
