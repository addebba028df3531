-- One entry: its twelve bytes, their number, and why the test of an entry answers so. Assumes nothing.
use Rattle.std.specs.Prelude.{◌≡◌, Bool, ◌&&◌, [], ◌∷◌, ◌++◌, nat_eq, eqb, take, set, replicate, if◌then◌else◌}
use Rattle.std.specs.List.{list_all}
use Rattle.std.proofs.Math.Path.{refl, sym, ap}
use Rattle.std.proofs.Common.{ap₂, ◌∙◌, eqb-true, Fits, take_all}
use Rattle.std.proofs.Math.Bool.{true, false}
use Rattle.std.proofs.lemmas.Bool.{false≢true, eqb-false}
use Prim.Native.Nat.{ℕ, zero, suc, ◌+◌, ◌-◌, ◌*◌, ◌/◌, ◌%◌, ◌^◌, ◌<◌}
use Rattle.std.proofs.Math.Nat.{pow-succ', pow-zero}
use native.Mathlib.Omega.{arith}
use Rattle.std.specs.Int.{w32}
use Rattle.std.proofs.Math.ListN.{length, drop, take-append-drop, length-drop}
use Rattle.std.proofs.lemmas.List.Edits.{sets}
use Rattle.std.proofs.Math.Seq.{slice, length-slice}
use Rattle.atlite.specs.Base.{bytes, same_bytes, all}
use Rattle.atlite.specs.Lexicon.{Bytes, is_letter, is_digit, in_word, is_word}
use Rattle.atlite_laws.specs.Facts.{same_true, same_refl, same-false-sym}
use Rattle.atlite.specs.Reader.{item}
use Rattle.reading.specs.Items.{word-parts, Ends, item-run}
use Rattle.layout.specs.Pack.{zeros}
use Rattle.layout_laws.specs.PackLaws.{each_append, pack-low, pack-high, length-zeros}
use Rattle.layout_laws.specs.StateReads.{ByteFits, bytes_back}
use Rattle.layout_laws.specs.Fitting.{each_all}
use Rattle.layout_laws.specs.StateFits.{byte_fits}
use Rattle.layout.specs.Layout.{bytes_number, three_words, encode_word}
use Rattle.decoding.specs.Decode.{bytes_in, decode_word}
use Rattle.scan.specs.Runs.{Run}
use Rattle.scan.specs.Keywords.{same_not, run-all}
use Rattle.dictionary.specs.Entries.{four_bytes, AreBytes, zero_from, spelled, own_word, entry}

-- ---- bytes of a word
pub spell-all : (t : Bytes) (w at : ℕ) → set (set (set (set t at (w % 256)) (at + 1) (w / 256 % 256)) (at + 2) (w / 65536 % 256)) (at + 3) (w / 16777216) ≡ sets t at (four_bytes w)
unfolding four_bytes
spell-all t w at =
    let a : at + 1 ≡ suc at = omega arith in
    let b : at + 2 ≡ suc (suc at) = omega arith in
    let c : at + 3 ≡ suc (suc (suc at)) = omega arith in
    rw (a, b, c)

twelve : (a b c : ℕ) → sets (sets (sets (replicate 12 0) 0 (four_bytes a)) 4 (four_bytes b)) 8 (four_bytes c) ≡ four_bytes a ++ (four_bytes b ++ four_bytes c)
unfolding four_bytes
twelve a b c = refl

four_bytes_lem : (w : ℕ) → Fits w32 w → AreBytes (four_bytes w)
unfolding AreBytes four_bytes
four_bytes_lem w h = let l = h.fits in (omega arith, (omega arith, (omega arith, (omega arith, tt))))

-- ---- zeros
zeros-all : (t : Bytes) → list_all (λ b. nat_eq b 0) t ≡ same_bytes t (zeros (length t))
unfolding zeros same_bytes
zeros-all [] = refl
zeros-all (b ∷ t) = ap (λ r. nat_eq b 0 && r) (zeros-all t)

zero_rest : (t : Bytes) (i : ℕ) → zero_from t i ≡ true → drop i t ≡ zeros (length t - i)
unfolding zero_from
zero_rest t i h = same_true (drop i t) (zeros (length t - i)) h

-- all bytes behind a place, as they are lent
zero-all : (t : Bytes) (i k : ℕ) (y : Bool) → k ≡ length t - i → y ≡ list_all (λ b. nat_eq b 0) (take k (drop i t)) → y ≡ zero_from t i
unfolding zero_from
zero-all t i k y e h =
    let w : take k (drop i t) ≡ drop i t = take_all k (drop i t) (omega (arith, length-drop i t)) in
    h ∙ zeros-all (take k (drop i t)) ∙ rw (w, length-drop i t) refl

-- ---- bytes and their number
number-zeros : (w : Bytes) (k : ℕ) → bytes_number (w ++ zeros k) ≡ bytes_number w
unfolding bytes_number zeros
number-zeros [] zero = refl
number-zeros [] (suc k) = let i = number-zeros [] k in omega arith
number-zeros (b ∷ w) k = rw (number-zeros w k)

-- bytes are their word, and zeros behind it
spelled-front : (t : Bytes) → AreBytes t → (k : ℕ) × (t ≡ spelled t ++ zeros k)
unfolding AreBytes spelled bytes_in bytes_number zeros
spelled-front [] h = (0, refl)
spelled-front (b ∷ t) h = go (eqb (b + 256 * bytes_number t) 0) refl (spelled-front t h.1)
  where
    go : (c : Bool) → eqb (b + 256 * bytes_number t) 0 ≡ c → (k : ℕ) × (t ≡ spelled t ++ zeros k)
        → (k : ℕ) × (b ∷ t ≡ (if c then [] else ((b + 256 * bytes_number t) % 256 ∷ bytes_in (length t) ((b + 256 * bytes_number t) / 256))) ++ zeros k)
    go true e r =
        let z = eqb-true (b + 256 * bytes_number t) 0 e in
        let n : bytes_number t ≡ 0 = omega arith in
        (suc (length t), ap₂ {C = Bytes} (λ x l. x ∷ l) (omega arith) (all-zero t h.1 n))
      where
        all-zero : (t : Bytes) → AreBytes t → bytes_number t ≡ 0 → t ≡ zeros (length t)
        all-zero [] h e = refl
        all-zero (b ∷ t) h e = ap₂ {C = Bytes} (λ x l. x ∷ l) (omega arith) (all-zero t h.1 (omega arith))
    go false e r = (
      r.0,
      ap₂ {C = Bytes} (λ x l. x ∷ l) (sym (pack-low 256 b (bytes_number t) h.0))
          (r.1 ∙ ap (λ n. bytes_in (length t) n ++ zeros r.0) (sym (pack-high 256 b (bytes_number t) h.0))),
    )

bytes-number : (k n : ℕ) → n < 256 ^ k → bytes_number (bytes_in k n) ≡ n
unfolding bytes_in bytes_number
bytes-number zero n h = let z : n < 1 = rw (pow-zero 256) at h in omega arith
bytes-number (suc k) n h =
    let l : n < 256 * 256 ^ k = rw (pow-succ' 256 k) at h in
    go (eqb n 0) refl (bytes-number k (n / 256) (omega arith))
  where
    go : (c : Bool) → eqb n 0 ≡ c → bytes_number (bytes_in k (n / 256)) ≡ n / 256
        → bytes_number (if c then [] else (n % 256 ∷ bytes_in k (n / 256))) ≡ n
    go true e i = sym (eqb-true n 0 e)
    go false e i = omega arith

four-number : (w : ℕ) (r : Bytes) → bytes_number (four_bytes w ++ r) ≡ w + 4294967296 * bytes_number r
unfolding bytes_number four_bytes
four-number w r = omega arith

last-number : (c : ℕ) → bytes_number (four_bytes c) ≡ c
unfolding bytes_number four_bytes
last-number c = omega arith

module _ (a b c : ℕ) where
  -- the three words as one number
  abbrev total : ℕ
  total = a + 4294967296 * (b + 4294967296 * c)

  module _ (t u v : Bytes) (p : t ≡ sets (replicate 12 0) 0 (four_bytes a)) (q : u ≡ sets t 4 (four_bytes b)) (r : v ≡ sets u 8 (four_bytes c)) where
    all_three : v ≡ four_bytes a ++ (four_bytes b ++ four_bytes c)
    all_three = r ∙ rw (q, p) (twelve a b c)

    pub entry-bytes : Fits w32 a → Fits w32 b → Fits w32 c → AreBytes v
    unfolding AreBytes
    entry-bytes f g h =
        rw all_three
        (each_append (λ b. b < 256) (four_bytes a) (four_bytes b ++ four_bytes c) (four_bytes_lem a f)
        (each_append (λ b. b < 256) (four_bytes b) (four_bytes c) (four_bytes_lem b g) (four_bytes_lem c h)))

    pub entry-own : (x : Bool) → x ≡ own_word (spelled v) → x ≡ own_word (entry a b c)
    unfolding spelled entry decode_word four_bytes
    entry-own x e =
        let n : bytes_number v ≡ total =
        ap bytes_number all_three ∙ four-number a _ ∙ ap (λ k. a + 4294967296 * k) (four-number b _ ∙ ap (λ k. b + 4294967296 * k) (last-number c)) in
        e ∙ rw (n, ap length all_three)

  entry-number : Fits w32 a → Fits w32 b → Fits w32 c → bytes_number (entry a b c) ≡ total
  unfolding entry decode_word
  entry-number f g h = let x = f.fits in let y = g.fits in let z = h.fits in bytes-number 12 total (omega arith)

module _ (a b c x y z : ℕ) (fa : Fits w32 a) (fb : Fits w32 b) (fc : Fits w32 c) (fx : Fits w32 x) (fy : Fits w32 y) (fz : Fits w32 z) where
  different : (total a b c ≡ total x y z → ⊥) → same_bytes (entry a b c) (entry x y z) ≡ false
  different n = same_not (entry a b c) (entry x y z) (λ e. n (sym (entry-number a b c fa fb fc) ∙ ap bytes_number e ∙ entry-number x y z fx fy fz))

  pub low-differs : (a ≡ x → ⊥) → false ≡ same_bytes (entry a b c) (entry x y z)
  low-differs n = let i = fa.fits in let j = fx.fits in sym (different (λ e. n (omega arith)))

  pub middle-differs : a ≡ x → (b ≡ y → ⊥) → false ≡ same_bytes (entry a b c) (entry x y z)
  middle-differs p n =
      let i = fb.fits in
      let j = fy.fits in
      sym (different (λ e. let k : b + 4294967296 * c ≡ y + 4294967296 * z = omega arith in
      n (sym (pack-low 4294967296 b c i) ∙ ap (λ m. m % 4294967296) k ∙ pack-low 4294967296 y z j)))

  pub high-decides : a ≡ x → b ≡ y → eqb c z ≡ same_bytes (entry a b c) (entry x y z)
  high-decides p q = go (eqb c z) refl
    where
      go : (r : Bool) → eqb c z ≡ r → r ≡ same_bytes (entry a b c) (entry x y z)
      go true e = rw (p, q, eqb-true c z e) (sym (same_refl (entry x y z)))
      go false e = let n = eqb-false c z e in sym (different (λ e. n (omega arith)))

-- the words of an entry
pub entry-encoded : (a b c : ℕ) → Fits w32 a → Fits w32 b → Fits w32 c → encode_word (entry a b c) ≡ a ∷ b ∷ c ∷ []
unfolding encode_word three_words
entry-encoded a b c f g h =
    let m : ℕ = 4294967296 in
    let x = f.fits in
    let y = g.fits in
    let i = pack-low m a (b + m * c) x in
    let j = pack-high m a (b + m * c) x in
    rw (entry-number a b c f g h, i, j, pack-low m b c y, pack-high m b c y)

-- ---- the test of an entry's bytes
ends-zeros : (k : ℕ) → Ends (zeros k)
unfolding zeros in_word is_letter is_digit
ends-zeros zero = tt
ends-zeros (suc k) = refl

not-both : (a b : Bool) → a ≡ false → (a && b) ≡ false
not-both a b h = rw h

module _ (t : Bytes) (e : ℕ) (h : AreBytes t) (r : Run t 0 e) where
  -- letters and digits, then zeros: the run is the word
  run-spelled : all in_word (spelled t) ≡ true → (slice 0 e t ≡ spelled t) × (zero_from t e ≡ true)
  unfolding zero_from
  run-spelled a =
      let f = spelled-front t h in
      let i = item-run (spelled t) (zeros f.0) a (ends-zeros f.0) in
      let j = ap item f.1 ∙ i in
      let d : drop e t ≡ zeros f.0 = sym r.rest ∙ ap (λ p. p.1) j in
      let n : f.0 ≡ length t - e = sym (length-zeros f.0) ∙ ap length (sym d) ∙ length-drop e t in
      (sym r.is ∙ ap (λ p. p.0) j, rw (d, n) (same_refl (zeros (length t - e))))

  -- zeros behind the run: the same
  zeros-spelled : zero_from t e ≡ true → slice 0 e t ≡ spelled t
  unfolding spelled
  zeros-spelled z =
      let w = slice 0 e t in
      let s : w ++ zeros (length t - e) ≡ t = ap (λ l. w ++ l) (sym (zero_rest t e z)) ∙ take-append-drop e t in
      let n : bytes_number t ≡ bytes_number w = ap bytes_number (sym s) ∙ number-zeros w (length t - e) in
      sym (ap (bytes_in (length t)) n ∙ bytes_back (length t) w (omega (arith, length-slice 0 e t r.within, r.within)) (each_all ByteFits in_word byte_fits w (run-all t 0 e r)))

  unended : (y : Bool) → y ≡ zero_from t e → y ≡ false → false ≡ own_word (spelled t)
  unfolding own_word
  unended y i j = sym (not-both (is_word (spelled t)) _ (go (is_word (spelled t)) refl))
    where
      go : (b : Bool) → is_word (spelled t) ≡ b → b ≡ false
      go false q = refl
      go true q = absurd (false≢true (sym (sym i ∙ j) ∙ (run-spelled (word-parts (spelled t) q).1).1))

  applied : (z q : Bool) → z ≡ zero_from t e → z ≡ true → q ≡ same_bytes (97 ∷ 112 ∷ 112 ∷ 108 ∷ 121 ∷ []) (slice 0 e t) → q ≡ true → false ≡ own_word (spelled t)
  unfolding own_word bytes
  applied z q i j k l =
      let s = zeros-spelled (sym i ∙ j) in
      let a : spelled t ≡ bytes "apply" = sym (same_true (bytes "apply") (slice 0 e t) (sym k ∙ l) ∙ s) in
      let f : same_bytes (spelled t) (bytes "apply") ≡ true = rw a (same_refl (bytes "apply")) in
      rw f (sym (last (is_word (spelled t))))
    where
      last : (b : Bool) → (b && false) ≡ false
      last true = refl
      last false = refl

  owned : (z q u : Bool) → z ≡ zero_from t e → z ≡ true → q ≡ same_bytes (97 ∷ 112 ∷ 112 ∷ 108 ∷ 121 ∷ []) (slice 0 e t) → q ≡ false → u ≡ is_word (slice 0 e t) → u ≡ own_word (spelled t)
  unfolding own_word bytes
  owned z q u i j k l m =
      let s = zeros-spelled (sym i ∙ j) in
      rw (← s, same-false-sym (bytes "apply") (slice 0 e t) (sym k ∙ l)) (m ∙ last (is_word (slice 0 e t)))
    where
      last : (b : Bool) → b ≡ (b && true)
      last true = refl
      last false = refl

  -- by the bytes that are lent
  module _ (n : ℕ) (z : Bool) (c : n ≡ length t - e) (i : z ≡ list_all (λ b. nat_eq b 0) (take n (drop e t))) where
    pub own-not : z ≡ false → false ≡ own_word (spelled t)
    own-not j = unended z (zero-all t e n z c i) j

    module _ (j : z ≡ true) (q : Bool) (k : q ≡ same_bytes (97 ∷ 112 ∷ 112 ∷ 108 ∷ 121 ∷ []) (slice 0 e t)) where
      pub own-apply : q ≡ true → false ≡ own_word (spelled t)
      own-apply l = applied z q (zero-all t e n z c i) j k l

      pub own-word : q ≡ false → (u : Bool) → u ≡ is_word (slice 0 e t) → u ≡ own_word (spelled t)
      own-word l u m = owned z q u (zero-all t e n z c i) j k l m
