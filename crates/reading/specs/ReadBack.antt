-- Words, atoms and lists as the reader takes them: printed with anything behind that ends a word, they are read back and no
-- byte more. Assumes nothing.
use Rattle.std.specs.Prelude.{◌≡◌, Bool, true, false, ◌||◌, length, eqb, leb, if◌then◌else◌}
use Rattle.std.proofs.Math.Path.{refl, ap}
use Rattle.std.proofs.Common.{sym, ◌∙◌, subst as transp, arith, eqb-true, leb-true, le-leb, ne_eqb}
use Rattle.std.proofs.lemmas.Bool.{false≢true, lt-leb}
use Rattle.std.proofs.Math.Option.{none}
use mathlib.Core.List.{List, [], ◌∷◌, ◌++◌, map}
use Prim.Native.Nat.{ℕ, zero, suc, ◌≤◌, ◌<◌}
use Rattle.atlite.specs.Base.{Base, done, require, or_refuse, bytes, same_bytes, all}
use Rattle.atlite.specs.Term.{this, top}
use Rattle.atlite.specs.Lexicon.{Lexicon, Bytes, is_letter, is_digit, in_word, letter_first, is_word, is_number}
use Rattle.atlite.specs.Script.{Src}
use Rattle.atlite.specs.Printer.{Printer, form, print_word, known, print_number}
use Rattle.atlite.specs.Keywords.{operators}
use Rattle.atlite.specs.Reader.{Reading, eat, after, atom, read_atom, read_word, spaced, read_items, read_params, read_names, read_head, read_expr}
use Rattle.atlite.specs.Valid.{is_name, words_hold}
use Rattle.atlite.specs.Table.{Named}
use Rattle.atlite_laws.specs.Facts.{and₂, both₂, or_right, same_true, refused-done}
use Rattle.reading.specs.Numbers.{decimal-print, print-number, number_digits}
use Rattle.reading.specs.Words.{name-word, number-name}
use Rattle.reading.specs.Items.{word-parts, closing, form-closing, Ends, ends-closing, item-run}

-- the reader takes the text w for a
abbrev pub Takes : {A : Type 0} → Reading A → Bytes → A → Type 0
Takes R w a = (j : Bytes) → Ends j → R (w ++ j) ≡ done (a, j)

letter-digit : (b : ℕ) → is_letter b ≡ true → is_digit b ≡ false
unfolding is_letter is_digit
letter-digit b h =
    let p = and₂ (leb 97 b) (leb b 122) h in
    let l = leb-true 97 b p.0 in
    rw (le-leb 48 b (omega arith), lt-leb b 57 (omega arith))

-- A word is no number.
not-number : (w : Bytes) → letter_first w ≡ true → is_number w ≡ false
unfolding letter_first is_number all
not-number [] h = refl
not-number (b ∷ []) h = letter-digit b h
not-number (b ∷ c ∷ w) h = rw (letter-digit b h)

no-bracket : (b : ℕ) → letter_first (b ∷ []) ≡ true → eqb 41 b ≡ false
unfolding letter_first is_letter
no-bracket b h = let p = and₂ (leb 97 b) (leb b 122) h in let l = leb-true 97 b p.0 in ne_eqb 41 b (omega arith)

after-letter : (w j : Bytes) → letter_first w ≡ true → after (41 ∷ []) (w ++ j) ≡ none
unfolding letter_first after
after-letter [] j h = absurd (false≢true h)
after-letter (b ∷ w) j h = rw (no-bracket b h)

-- a text that is no word is not the word w
other_word : (v w : Bytes) → is_word v ≡ false → is_word w ≡ true → same_bytes w v ≡ false
other_word v w h k = go (same_bytes w v) refl
  where
    go : (b : Bool) → same_bytes w v ≡ b → b ≡ false
    go true e = absurd (false≢true (sym h ∙ ap is_word (sym (same_true w v e)) ∙ k))
    go false e = refl

no-open : (b : ℕ) → in_word b ≡ true → eqb b 40 ≡ false
unfolding in_word is_letter is_digit
no-open b h = go (eqb b 40) refl
  where
    go : (c : Bool) → eqb b 40 ≡ c → c ≡ false
    go true e = absurd (false≢true (ap in_word (sym (eqb-true b 40 e)) ∙ h))
    go false e = refl

number-run : (w : Bytes) → all is_digit w ≡ true → all in_word w ≡ true
unfolding all in_word
number-run [] h = refl
number-run (b ∷ w) h =
    let p = and₂ (is_digit b) (all is_digit w) h in both₂ (or_right (is_letter b) p.0) (number-run w p.1)

-- Lists of items: nothing, and one more.
pub items-end : {A L : Type 0} (end : L) (more : A → L → L) (R : Reading A) (k : ℕ) (j : Bytes)
    → read_items end more R k (41 ∷ j) ≡ done (end, j)
unfolding read_items eat after Base
items-end end more R zero j = refl
items-end end more R (suc k) j = refl

pub items_more : {A L : Type 0} (end : L) (more : A → L → L) (R : Reading A) (k : ℕ) (w : Bytes) (a : A) (l : L) (i j : Bytes)
    → R (w ++ i) ≡ done (a, i) → read_items end more R k i ≡ done (l, j)
    → read_items end more R (suc k) (32 ∷ (w ++ i)) ≡ done (more a l, j)
unfolding read_items spaced eat after Base
items_more end more R k w a l i j p q = rw (p, q)

module _ (ws : List Bytes) (held : words_hold ws ≡ true) where
  pub word-takes : (x : ℕ) → Named (length ws) x → Takes (read_word ws) (print_word ws x) x
  unfolding read_word require or_refuse
  word-takes x n j e =
      let h = name-word ws x held n in
      rw (item-run (print_word ws x) j (word-parts (print_word ws x) h).1 e, h, number-name ws x held n)

  var-atom : (x : ℕ) → Named (length ws) x → atom ws (print_word ws x) ≡ done (Src.var x)
  unfolding atom Base Lexicon
  var-atom x n =
      let w = print_word ws x in
      let h = name-word ws x held n in
      rw (
        not-number w (word-parts w h).0,
        other_word (bytes "null") w refl h,
        other_word (bytes "this") w refl h,
        h,
        number-name ws x held n,
      )

  num-atom : (n : ℕ) → n ≤ top → atom ws (print_number n) ≡ done (Src.num n)
  unfolding atom
  num-atom n h = rw (print-number n h) (ap (λ m. done (Src.num m)) (decimal-print n h))

  -- an atom is read as such wherever an expression may stand, with any fuel
  atom-takes : (n : ℕ) → 0 < n → (w : Bytes) (e : Src) → all in_word w ≡ true → atom ws w ≡ done e → Takes (read_expr operators n ws) w e
  unfolding read_expr read_atom all atom Base Lexicon
  atom-takes zero l w e h p j d = absurd (omega arith)
  atom-takes (suc n) l [] e h p j d = absurd (refused-done p)
  atom-takes (suc n) l (b ∷ w) e h p j d =
      rw (no-open b (and₂ (in_word b) (all in_word w) h).0, read_expr) (rw (item-run (b ∷ w) j h d, p))

  pub num-takes : (n m : ℕ) → 0 < n → m ≤ top → Takes (read_expr operators n ws) (print_number m) (Src.num m)
  num-takes n m l h =
      atom-takes n l (print_number m) (Src.num m) (number-run (print_number m) (number_digits (print_number m) (print-number m h))) (num-atom m h)

  pub null-takes : (n : ℕ) → 0 < n → Takes (read_expr operators n ws) (bytes "null") Src.null
  unfolding atom Base Lexicon
  null-takes n l = atom-takes n l (bytes "null") Src.null refl refl

  pub var-takes : (n x : ℕ) → 0 < n → (eqb x this || is_name (length ws) x) ≡ true → Takes (read_expr operators n ws) (print_word ws x) (Src.var x)
  unfolding atom print_word known Base Lexicon
  var-takes n x l h = go (eqb x this) refl h
    where
      Var : ℕ → Type 0
      Var y = Takes (read_expr operators n ws) (print_word ws y) (Src.var y)

      go : (b : Bool) → eqb x this ≡ b → (b || is_name (length ws) x) ≡ true → Var x
      go true e k = transp Var (sym (eqb-true x this e)) (atom-takes n l (bytes "this") (Src.var this) refl refl)
      go false e k =
          atom-takes n l (print_word ws x) (Src.var x) (word-parts (print_word ws x) (name-word ws x held k)).1 (var-atom x k)

  params-take : (xs : List ℕ) (k : ℕ) → length xs ≤ k → all (is_name (length ws)) xs ≡ true → (j : Bytes)
      → read_items [] ◌∷◌ (read_word ws) k (closing (map (print_word ws) xs) j) ≡ done (xs, j)
  unfolding all
  params-take [] k l h j = items-end [] ◌∷◌ (read_word ws) k j
  params-take (x ∷ xs) zero l h j = absurd (omega arith)
  params-take (x ∷ xs) (suc k) l h j =
      let p = and₂ (is_name (length ws) x) (all (is_name (length ws)) xs) h in
      let i = closing (map (print_word ws) xs) j in
      items_more [] ◌∷◌ (read_word ws) k (print_word ws x) x xs i j (word-takes x p.0 i (ends-closing (map (print_word ws) xs) j))
      (params-take xs k (omega arith) p.1 j)

  names-take : (x : ℕ) (xs : List ℕ) → length xs ≤ 2 → Named (length ws) x → all (is_name (length ws)) xs ≡ true → (j : Bytes)
      → read_names ws (print_word ws x ++ closing (map (print_word ws) xs) j) ≡ done (x ∷ xs, j)
  unfolding read_names read_params
  names-take x xs l n h j =
      let i = closing (map (print_word ws) xs) j in
      let w = print_word ws x in
      rw (after-letter w i (word-parts w (name-word ws x held n)).0, read_names)
      (rw (word-takes x n i (ends-closing (map (print_word ws) xs) j), params-take xs 2 l h j))

  pub head-takes : (xs : List ℕ) → length xs ≤ 3 → all (is_name (length ws)) xs ≡ true → (j : Bytes)
      → read_head ws (32 ∷ (form (map (print_word ws) xs) ++ j)) ≡ done (xs, j)
  unfolding read_head read_names all after Base Printer
  head-takes [] l h j = refl
  head-takes (x ∷ xs) l h j =
      let p = and₂ (is_name (length ws) x) (all (is_name (length ws)) xs) h in
      ap (λ i. read_head ws (32 ∷ i)) (form-closing (print_word ws x) (map (print_word ws) xs) j) ∙ names-take x xs (omega arith) p.0 p.1 j
