-- Atoms: one word each, in its place. Assumes nothing.
use Rattle.std.specs.Prelude.{◌≡◌, Bool, true, false, List, [], ◌∷◌, ℕ, ◌+◌, ◌-◌, ◌≤◌, ◌<◌, length, take, drop, set, Option, Some, None}
use Rattle.std.proofs.Math.Path.{refl}
use Rattle.std.proofs.Common.{sym, ◌∙◌, arith, rules}
use Rattle.std.proofs.lemmas.Bool.{false≢true}
use Rattle.std.proofs.Math.Option.{Option as Maybe, none, some}
use Rattle.std.proofs.Math.Seq.{slice, slice_empty, length-slice}
use Rattle.atlite.specs.Base.{Base, Result, done, refused, require, or_refuse, ◌>>=◌, ◌>>◌, bytes, same_bytes, all}
use Rattle.atlite.specs.Lexicon.{Bytes, is_digit, is_word, letter_first, is_number, decimal, number_of, dictionary}
use Rattle.atlite.specs.Script.{Src}
use Rattle.atlite.specs.Reader.{item, atom, read_atom, read_word}
use Rattle.atlite_laws.specs.Facts.{same_true, same-false-sym}
use Rattle.atlite.specs.Term.{top}
use Rattle.words.specs.Wide.{wide, wide_src}
use Rattle.scan.specs.Runs.{Run}
use Rattle.scan.specs.Keywords.{slice-take}
use Rattle.lexemes.specs.declared.names.Name.{Name}
use Rattle.lexemes.specs.declared.scratch.Step.{Step}
use Rattle.lexemes.specs.Atoms.{NumberIs, Named, NameOf}
use Rattle.lexemes.specs.NameLaws.{name-small}
use Rattle.lexemes.specs.DescentContract.{Took, stepped}

number-filled : (w : Bytes) → is_number w ≡ true → 0 < length w
unfolding is_number
number-filled [] h = absurd (false≢true h)
number-filled (b ∷ w) h = omega arith

null_is : (ws : List Bytes) → atom ws (110 ∷ 117 ∷ 108 ∷ 108 ∷ []) ≡ done Src.null
unfolding atom is_number all is_digit Base
null_is ws = refl

this-is : (ws : List Bytes) → atom ws (116 ∷ 104 ∷ 105 ∷ 115 ∷ []) ≡ done (Src.var 0)
unfolding atom is_number all is_digit Base
this-is ws = refl

none_is : (ws : List Bytes) → atom ws [] ≡ refused 2
unfolding atom is_number is_word letter_first Base
none_is ws = refl

abbrev as_var : ℕ × Bytes → Result (Src × Bytes)
as_var c = done (Src.var c.0, c.1)

-- what is no number, `null` or `this` is read as a word
name-atom : (ws : List Bytes) (i : Bytes) → is_number (item i).0 ≡ false → same_bytes (item i).0 (110 ∷ 117 ∷ 108 ∷ 108 ∷ []) ≡ false
    → same_bytes (item i).0 (116 ∷ 104 ∷ 105 ∷ 115 ∷ []) ≡ false
    → read_atom ws i ≡ (read_word ws i >>= as_var)
unfolding read_atom read_word atom require or_refuse bytes
name-atom ws i p q s = rw (p, q, s) (go (is_word (item i).0) (number_of ws (item i).0))
  where
    go : (b : Bool) (o : Maybe ℕ)
        → ◌>>=◌ {B = Src × Bytes} (require 2 b >> (or_refuse 2 o >>= λ x. done (Src.var x))) (λ e. done (e, (item i).1))
        ≡ ((require 2 b >> (◌>>=◌ {B = ℕ × Bytes} (or_refuse 2 o) (λ x. done (x, (item i).1)))) >>= as_var)
    go true (some x) = refl
    go true none = refl
    go false o = refl

module _ (t : Bytes) (at o e : ℕ) (old new : List ℕ) (h : Run t at e) where
  atom-run : (ws : List Bytes) → read_atom ws (drop at t) ≡ ◌>>=◌ {B = Src × Bytes} (atom ws (slice at e t)) (λ d. done (d, drop e t))
  unfolding read_atom
  atom-run ws = rw (h.is, h.rest)

  -- one word, where the run is not empty
  one_word : (ws : List Bytes) (d : Src) (w : ℕ) (a : Option Step) → at < e → atom ws (slice at e t) ≡ done d → wide_src d ≡ w ∷ []
      → a ≡ stepped e (o + 1) → new ≡ set old o w → Took wide_src t at o old new (read_atom ws (drop at t)) a
  unfolding Took
  one_word ws d w a f p q z u = rw z (record {
    value = d;
    is = atom-run ws ∙ rw p;
    far = f;
    within = h.within;
    wrote = u ∙ rw q;
    ends = rw q;
    short = omega arith;
  })

  pub empty-atom : e ≡ at → Took wide_src t at o old new (read_atom (dictionary t) (drop at t)) None
  unfolding Took
  empty-atom k = atom-run (dictionary t) ∙ rw (k, slice_empty at t, none_is (dictionary t))

  filled : 0 < length (slice at e t) → at < e
  filled k = omega (arith, length-slice at e t h.within)

  -- the word as the code cuts it out
  cut : (d : Option ℕ) → NumberIs (take (e - at) (drop at t)) d → NumberIs (slice at e t) d
  cut d s = rw (slice-take at e t) s

  pub number-atom : (a : Option Step) (n w : ℕ) → NumberIs (take (e - at) (drop at t)) (Some n) → w ≡ wide 2 n → a ≡ stepped e (o + 1) → new ≡ set old o w
      → Took wide_src t at o old new (read_atom (dictionary t) (drop at t)) a
  unfolding NumberIs atom wide_src
  number-atom a n w s v z u =
      let k = cut (Some n) s in
      one_word (dictionary t) (Src.num (decimal 0 (slice at e t))) w a (filled (number-filled (slice at e t) k.0))
      (rw k.0) (rw (← k.1, ← v)) z u

  module _ (b : NumberIs (slice at e t) None) where
    pub null-atom : (r : Bool) (a : Option Step) → r ≡ same_bytes (110 ∷ 117 ∷ 108 ∷ 108 ∷ []) (slice at e t) → r ≡ true → a ≡ stepped e (o + 1)
        → new ≡ set old o 1 → Took wide_src t at o old new (read_atom (dictionary t) (drop at t)) a
    unfolding atom wide_src is_number Base
    null-atom r a p q z u =
        let y = same_true (110 ∷ 117 ∷ 108 ∷ 108 ∷ []) (slice at e t) (sym p ∙ q) in
        one_word (dictionary t) Src.null 1 a (filled (rw (← y) (omega arith))) (rw (← y) (null_is (dictionary t))) refl z u

    pub this-atom : (r : Bool) (a : Option Step) → r ≡ same_bytes (116 ∷ 104 ∷ 105 ∷ 115 ∷ []) (slice at e t) → r ≡ true → a ≡ stepped e (o + 1)
        → new ≡ set old o 6 → Took wide_src t at o old new (read_atom (dictionary t) (drop at t)) a
    unfolding atom wide_src is_number Base
    this-atom r a p q z u =
        let y = same_true (116 ∷ 104 ∷ 105 ∷ 115 ∷ []) (slice at e t) (sym p ∙ q) in
        one_word (dictionary t) (Src.var 0) 6 a (filled (rw (← y) (omega arith))) (rw (← y) (this-is (dictionary t))) refl z u

    module _ (r s : Bool) (p : r ≡ same_bytes (110 ∷ 117 ∷ 108 ∷ 108 ∷ []) (slice at e t)) (q : r ≡ false)
        (v : s ≡ same_bytes (116 ∷ 104 ∷ 105 ∷ 115 ∷ []) (slice at e t)) (x : s ≡ false) where
      by_name : read_atom (dictionary t) (drop at t) ≡ (read_word (dictionary t) (drop at t) >>= as_var)
      unfolding NumberIs
      by_name = name-atom (dictionary t) (drop at t) (rw h.is b)
          (rw h.is (same-false-sym _ (slice at e t) (sym p ∙ q))) (rw h.is (same-false-sym _ (slice at e t) (sym v ∙ x)))

      pub var-atom : (x : Name) (a : Option Step) (w : ℕ) → NameOf t at (Some x) → w ≡ wide 6 x.number → a ≡ stepped x.end (o + 1) → new ≡ set old o w
          → Took wide_src t at o old new (read_atom (dictionary t) (drop at t)) a
      unfolding NameOf Named Took wide_src
      var-atom x a w k l z u =
          let f = k.far in
          rw z (record {
            value = Src.var x.number;
            is = by_name ∙ rw k.is;
            far = k.far;
            within = k.within;
            wrote = u ∙ rw l;
            ends = refl;
            short = omega arith;
          })

      pub no-atom : NameOf t at None → Took wide_src t at o old new (read_atom (dictionary t) (drop at t)) None
      unfolding NameOf Named Took
      no-atom k = by_name ∙ rw k

pub number_small : (w : Bytes) (n : ℕ) → NumberIs w (Some n) → n ≤ top
unfolding NumberIs
number_small w n s = s.2

pub number-not : (t : Bytes) (at e : ℕ) (d : Option ℕ) → NumberIs (take (e - at) (drop at t)) d → d ≡ None → NumberIs (slice at e t) None
number-not t at e d s q = rw (slice-take at e t) (rw q at s)

pub ruleset laws = (rules, empty-atom, number-atom, null-atom, this-atom, var-atom, no-atom, name-small, number_small, number-not)
