-- Entries one after another: why the loops over them answer so, and the words that they were read from. Assumes nothing.
use Rattle.std.specs.Prelude.{◌≡◌, refl, Bool, true, false, ◌&&◌, eqb, length, get_or, take, drop}
use Rattle.std.proofs.Math.Path.{sym}
use Rattle.std.proofs.Common.{ap, ap₂, ◌∙◌, rules, Fits, take-append-drop, drop-cons, drop-drop}
use mathlib.Core.List.{List, [], ◌∷◌, ◌++◌, append_assoc}
use Prim.Native.Nat.{ℕ, zero, suc, ◌+◌, ◌-◌, ◌*◌, ◌≤◌, ◌<◌}
use native.Mathlib.Omega.{arith}
use Rattle.std.specs.Int.{w32}
use Rattle.atlite.specs.Base.{same_bytes}
use Rattle.atlite.specs.Lexicon.{Bytes, among}
use Rattle.atlite.specs.Valid.{words_hold}
use Rattle.layout.specs.Pack.{flat}
use Rattle.layout.specs.Layout.{encode_word}
use Rattle.decoding.specs.Reading.{cut}
use Rattle.decoding.specs.Decode.{decode_word}
use Rattle.dictionary.specs.Entries.{own_word, entry, entry_at, entries_at, among_at, entry_holds, entries_hold}
use Rattle.dictionary.specs.WordLaws.{spell-all, entry-bytes, entry-own, low-differs, middle-differs, high-decides, own-not, own-apply, own-word, entry-encoded}

-- ---- entries, one after another
module _ (w : List ℕ) where
  pub three-at : (at : ℕ) → at + 3 ≤ length w → take 3 (drop at w) ≡ get_or w at 0 ∷ get_or w (at + 1) 0 ∷ get_or w (at + 2) 0 ∷ []
  three-at at h =
      let a : at + 1 ≡ suc at = omega arith in
      let b : at + 2 ≡ suc (suc at) = omega arith in
      rw (drop-cons w at 0 (omega arith), drop-cons w (suc at) 0 (omega arith), drop-cons w (suc (suc at)) 0 (omega arith), a, b)

  pub first_entry : (at n : ℕ) → 0 < n → at + 3 * n ≤ length w → entries_at w at n ≡ entry_at w at ∷ entries_at w (at + 3) (n - 1)
  unfolding entries_at entry_at entry cut
  first_entry at zero p h = absurd (omega arith)
  first_entry at (suc n) p h =
      let m : suc n - 1 ≡ n = omega arith in
      rw m (ap₂ {C = List Bytes} (λ x l. x ∷ l) (ap decode_word (three-at at (omega arith))) (ap (cut decode_word 3 n) (drop-drop 3 at w)))

-- the words that entries were read from
pub entries-encoded : (w : List ℕ) → ((i : ℕ) → Fits w32 (get_or w i 0)) → (n at : ℕ) → at + 3 * n ≤ length w
    → flat encode_word (entries_at w at n) ++ drop (at + 3 * n) w ≡ drop at w
unfolding flat entries_at cut entry
entries-encoded w f zero at h = let e : at + 3 * 0 ≡ at = omega arith in rw e
entries-encoded w f (suc n) at h =
    let x = encode_word (decode_word (take 3 (drop at w))) in
    let e : x ≡ take 3 (drop at w) =
    rw (three-at w at (omega arith)) (entry-encoded (get_or w at 0) (get_or w (at + 1) 0) (get_or w (at + 2) 0) (f at) (f (at + 1)) (f (at + 2))) in
    let i = entries-encoded w f n (at + 3) (omega arith) in
    let k : at + 3 * suc n ≡ at + 3 + 3 * n = omega arith in
    rw (k, drop-drop 3 at w, append_assoc x (flat encode_word (cut decode_word 3 n (drop (at + 3) w))) (drop (at + 3 + 3 * n) w), i, e, ← drop-drop 3 at w) (take-append-drop 3 (drop at w))

pub length-entries : (w : List ℕ) (n at : ℕ) → length (entries_at w at n) ≡ n
unfolding entries_at cut
length-entries w zero at = refl
length-entries w (suc n) at = rw (drop-drop 3 at w) (ap suc (length-entries w n (at + 3)))

-- ---- an entry among others
module _ (w : List ℕ) (at n : ℕ) (x : Bytes) where
  pub among_none : n ≡ 0 → among_at w at n x ≡ false
  unfolding among_at entries_at cut among
  among_none h = rw h

  module _ (p : 0 < n) (h : at + 3 * n ≤ length w) (r : Bool) (s : r ≡ same_bytes (entry_at w at) x) where
    pub among-here : r ≡ true → among_at w at n x ≡ true
    unfolding among_at among
    among-here e = rw (first_entry w at n p h, among) (rw (sym s ∙ e))

    pub among_later : r ≡ false → among_at w at n x ≡ among_at w (at + 3) (n - 1) x
    unfolding among_at among
    among_later e = rw (first_entry w at n p h, among) (rw (sym s ∙ e))

module _ (w : List ℕ) (at n : ℕ) (r : Bool) (s : r ≡ own_word (entry (get_or w at 0) (get_or w (at + 1) 0) (get_or w (at + 2) 0))) where
  pub entry-not : r ≡ false → false ≡ entry_holds w at n
  unfolding entry_holds entry_at
  entry-not e = rw (sym s ∙ e)

  module _ (e : r ≡ true) (q : Bool) (t : q ≡ among_at w (at + 3) n (entry_at w at)) where
    pub entry-again : q ≡ true → false ≡ entry_holds w at n
    unfolding entry_holds entry_at
    entry-again d = rw (sym s ∙ e, sym t ∙ d)

    pub entry_first : q ≡ false → true ≡ entry_holds w at n
    unfolding entry_holds entry_at
    entry_first d = rw (sym s ∙ e, sym t ∙ d)

-- ---- all entries
module _ (w : List ℕ) (at n : ℕ) where
  pub hold-none : n ≡ 0 → entries_hold w at n ≡ true
  unfolding entries_hold entries_at cut words_hold
  hold-none h = rw h

  module _ (p : 0 < n) (h : at + 3 * n ≤ length w) where
    split : entries_hold w at n ≡ (entry_holds w at (n - 1) && entries_hold w (at + 3) (n - 1))
    unfolding entries_hold words_hold entry_holds own_word among_at
    split = rw (first_entry w at n p h, words_hold)

    pub hold-not : (r : Bool) → r ≡ entry_holds w at (n - 1) → r ≡ false → entries_hold w at n ≡ false
    hold-not r s e = split ∙ rw (sym s ∙ e)

    pub hold-more : (r : Bool) → r ≡ entry_holds w at (n - 1) → r ≡ true → entries_hold w at n ≡ entries_hold w (at + 3) (n - 1)
    hold-more r s e = split ∙ rw (sym s ∙ e)

-- ---- two entries, and the loops
module _ (w : List ℕ) (i j : ℕ) (f : (k : ℕ) → Fits w32 (get_or w k 0)) where
  pub entries-low : (get_or w i 0 ≡ get_or w j 0 → ⊥) → false ≡ same_bytes (entry_at w i) (entry_at w j)
  unfolding entry_at
  entries-low n = low-differs _ _ _ _ _ _ (f i) (f (i + 1)) (f (i + 2)) (f j) (f (j + 1)) (f (j + 2)) n

  pub entries-middle : get_or w i 0 ≡ get_or w j 0 → (get_or w (i + 1) 0 ≡ get_or w (j + 1) 0 → ⊥) → false ≡ same_bytes (entry_at w i) (entry_at w j)
  unfolding entry_at
  entries-middle p n = middle-differs _ _ _ _ _ _ (f i) (f (i + 1)) (f (i + 2)) (f j) (f (j + 1)) (f (j + 2)) p n

  pub entries-high : get_or w i 0 ≡ get_or w j 0 → get_or w (i + 1) 0 ≡ get_or w (j + 1) 0 → eqb (get_or w (i + 2) 0) (get_or w (j + 2) 0) ≡ same_bytes (entry_at w i) (entry_at w j)
  unfolding entry_at
  entries-high p q = high-decides _ _ _ _ _ _ (f i) (f (i + 1)) (f (i + 2)) (f j) (f (j + 1)) (f (j + 2)) p q

-- the entries from the k-th on decide of all
unfoldable pub Seeking : List ℕ → ℕ → ℕ → ℕ → ℕ → Type 0
Seeking w at n it k = among_at w at n (entry_at w it) ≡ among_at w (at + 3 * k) (n - k) (entry_at w it)

pub seek-start : (w : List ℕ) (at n it : ℕ) → Seeking w at n it 0
unfolding Seeking
seek-start w at n it = let e : n - 0 ≡ n = omega arith in let d : at + 3 * 0 ≡ at = omega arith in rw (e, d) refl

module _ (w : List ℕ) (at n it k : ℕ) (h : Seeking w at n it k) where
  pub seek-none : n ≤ k → false ≡ among_at w at n (entry_at w it)
  unfolding Seeking
  seek-none z = sym (h ∙ among_none w (at + 3 * k) (n - k) (entry_at w it) (omega arith))

  module _ (p : k < n) (l : at + 3 * n ≤ length w) (r : Bool) (s : r ≡ same_bytes (entry_at w (at + 3 * k)) (entry_at w it)) where
    pub seek-here : r ≡ true → true ≡ among_at w at n (entry_at w it)
    unfolding Seeking
    seek-here e = sym (h ∙ among-here w (at + 3 * k) (n - k) (entry_at w it) (omega arith) (omega arith) r s e)

    pub seek-on : r ≡ false → Seeking w at n it (k + 1)
    unfolding Seeking
    seek-on e =
        let i : at + 3 * (k + 1) ≡ at + 3 * k + 3 = omega arith in
        let m : n - (k + 1) ≡ n - k - 1 = omega arith in
        rw (i, m) (h ∙ among_later w (at + 3 * k) (n - k) (entry_at w it) (omega arith) (omega arith) r s e)

unfoldable pub Holding : List ℕ → ℕ → ℕ → ℕ → Type 0
Holding w at n k = entries_hold w at n ≡ entries_hold w (at + 3 * k) (n - k)

pub hold-start : (w : List ℕ) (at n : ℕ) → Holding w at n 0
unfolding Holding
hold-start w at n = let e : n - 0 ≡ n = omega arith in let d : at + 3 * 0 ≡ at = omega arith in rw (e, d) refl

module _ (w : List ℕ) (at n k : ℕ) (h : Holding w at n k) where
  pub all_hold : n ≤ k → true ≡ entries_hold w at n
  unfolding Holding
  all_hold z = sym (h ∙ hold-none w (at + 3 * k) (n - k) (omega arith))

  module _ (p : k < n) (l : at + 3 * n ≤ length w) (r : Bool) (s : r ≡ entry_holds w (at + 3 * k) (n - k - 1)) where
    pub one-not : r ≡ false → false ≡ entries_hold w at n
    unfolding Holding
    one-not e = sym (h ∙ hold-not w (at + 3 * k) (n - k) (omega arith) (omega arith) r s e)

    pub one_more : r ≡ true → Holding w at n (k + 1)
    unfolding Holding
    one_more e =
        let i : at + 3 * (k + 1) ≡ at + 3 * k + 3 = omega arith in
        let m : n - (k + 1) ≡ n - k - 1 = omega arith in
        rw (i, m) (h ∙ hold-more w (at + 3 * k) (n - k) (omega arith) (omega arith) r s e)

pub ruleset laws = (rules, spell-all, entry-bytes, entry-own, entries-low, entries-middle, entries-high, own-not, own-apply, own-word, seek-start, seek-none, seek-here, seek-on, entry-not, entry-again, entry_first, hold-start, all_hold, one-not, one_more)
