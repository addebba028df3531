-- The reserved words and their kinds. The code compares a run with those of its own length only. Assumes nothing.
use Rattle.std.specs.Prelude.{◌≡◌, Bool, ◌&&◌, ◌||◌, leb, get_or, take, if◌then◌else◌, Option, Some, None, is_none}
use Rattle.std.proofs.Math.Path.{refl, sym, ap}
use Rattle.std.proofs.Common.{◌∙◌, rules, take-append-drop}
use Rattle.std.proofs.Math.Bool.{true, false, not, cond}
use Rattle.std.proofs.lemmas.Bool.{false≢true}
use mathlib.Core.List.{List, [], ◌∷◌, ◌++◌, map}
use Prim.Native.Nat.{ℕ, zero, suc, ◌-◌, ◌≤◌, ◌<◌}
use Rattle.std.proofs.Math.Nat.{sub-zero, zero-sub, suc-sub-suc}
use native.Mathlib.Omega.{arith}
use borrow.Author.Tests.{lt-leb, le-leb, eq-eqb, ne_eqb}
use Rattle.std.proofs.Math.Dec.{eqb}
use Rattle.std.proofs.Math.ListN.{length, drop}
use Rattle.std.proofs.Math.Seq.{slice, slice-cons, slice_empty, length-slice, take-nil}
use Rattle.atlite.specs.Base.{Base, same_bytes, all}
use Rattle.atlite.specs.Lexicon.{Bytes, is_letter, in_word, letter_first, among, is_word}
use Rattle.atlite.specs.Keywords.{reserved}
use Rattle.atlite.specs.Reader.{item}
use Rattle.atlite_laws.specs.Facts.{and₂, same_true}
use Rattle.decoding.specs.Kinds.{Words, keywords, kind_of, kind_in}
use Rattle.scan.specs.Runs.{Run, index, sized, Unlike, Sized, others, Kinded}

-- ---- the comparison with given bytes
pub slice-take : (at e : ℕ) (t : Bytes) → slice at e t ≡ take (e - at) (drop at t)
slice-take zero e t = rw sub-zero
slice-take (suc at) zero t = rw zero-sub
slice-take (suc at) (suc e) [] = rw take-nil
slice-take (suc at) (suc e) (x ∷ t) = rw suc-sub-suc (slice-take at e t)

pub slice-drop : (at e : ℕ) (t : Bytes) → at ≤ e → slice at e t ++ drop e t ≡ drop at t
slice-drop zero e t h = take-append-drop e t
slice-drop (suc at) zero t h = absurd (omega arith)
slice-drop (suc at) (suc e) [] h = refl
slice-drop (suc at) (suc e) (x ∷ t) h = slice-drop at e t (omega arith)

pub same_not : (v w : Bytes) → (v ≡ w → ⊥) → same_bytes v w ≡ false
same_not v w n = go (same_bytes v w) refl
  where
    go : (b : Bool) → same_bytes v w ≡ b → b ≡ false
    go true e = absurd (n (same_true v w e))
    go false e = refl

-- ---- places
module _ (w : Bytes) where
  pub among_none : (vs : List Bytes) → index vs w ≡ length vs → among vs w ≡ false
  unfolding index among
  among_none [] h = refl
  among_none (v ∷ vs) h = go (same_bytes v w) h (among_none vs)
    where
      go : (b : Bool) → (if b then 0 else suc (index vs w)) ≡ suc (length vs) → (index vs w ≡ length vs → among vs w ≡ false)
          → (b || among vs w) ≡ false
      go true k ih = absurd (omega arith)
      go false k ih = ih (omega arith)

  pub among-some : (vs : List Bytes) → index vs w < length vs → among vs w ≡ true
  unfolding index among
  among-some [] h = absurd (omega arith)
  among-some (v ∷ vs) h = go (same_bytes v w) h (among-some vs)
    where
      go : (b : Bool) → (if b then 0 else suc (index vs w)) < suc (length vs) → (index vs w < length vs → among vs w ≡ true)
          → (b || among vs w) ≡ true
      go true k ih = refl
      go false k ih = ih (omega arith)

  pub index-le : (vs : List Bytes) → index vs w ≤ length vs
  unfolding index
  index-le [] = omega arith
  index-le (v ∷ vs) = go (same_bytes v w) (index-le vs)
    where
      go : (b : Bool) → index vs w ≤ length vs → (if b then 0 else suc (index vs w)) ≤ suc (length vs)
      go true k = omega arith
      go false k = omega arith

-- ---- kinds
-- no two kinds are the same, and none is 0
unfoldable pub absent : ℕ → List (Bytes × ℕ) → Bool
absent k [] = not (eqb k 0)
absent k (r ∷ rs) = not (eqb k r.1) && absent k rs

unfoldable pub distinct : List (Bytes × ℕ) → Bool
distinct [] = true
distinct (r ∷ rs) = absent r.1 rs && distinct rs

not_so : (b : Bool) → not b ≡ true → b ≡ false
not_so true h = absurd (false≢true h)
not_so false h = refl

absent-zero : (k : ℕ) (rs : List (Bytes × ℕ)) → absent k rs ≡ true → eqb k 0 ≡ false
unfolding absent
absent-zero k [] h = not_so (eqb k 0) h
absent-zero k (r ∷ rs) h = absent-zero k rs (and₂ (not (eqb k r.1)) (absent k rs) h).1

pub keywords-distinct : distinct keywords ≡ true
unfolding distinct absent Words
keywords-distinct = refl

module _ (w : Bytes) where
  -- by length
  by_length : (p : ℕ → Bool) → p (length w) ≡ true → (rs : List (Bytes × ℕ)) → kind_of (sized p rs) w ≡ kind_of rs w
  unfolding kind_of sized
  by_length p h [] = refl
  by_length p h (r ∷ rs) = go (p (length r.0)) refl (same_bytes r.0 w) refl (by_length p h rs)
    where
      go : (b : Bool) → p (length r.0) ≡ b → (c : Bool) → same_bytes r.0 w ≡ c → kind_of (sized p rs) w ≡ kind_of rs w
          → kind_of (cond b (r ∷ sized p rs) (sized p rs)) w ≡ cond c r.1 (kind_of rs w)
      go true e c d i = rw (d, i)
      go false e true d i = absurd (false≢true (sym e ∙ ap (λ v. p (length v)) (same_true r.0 w d) ∙ h))
      go false e false d i = i

  unlike-none : (rs : List (Bytes × ℕ)) → Unlike rs w → kind_of rs w ≡ 0
  unfolding kind_of Unlike
  unlike-none [] h = refl
  unlike-none (r ∷ rs) h = rw h.0 (unlike-none rs h.1)

  pub unlike : (v : Bytes) (r : Bool) → r ≡ same_bytes v w → r ≡ false → same_bytes v w ≡ false
  unlike v r h e = sym h ∙ e

  -- a word of the list
  pub keyword-so : (v : Bytes) (k : ℕ) (r : Bool) → r ≡ same_bytes v w → r ≡ true → kind_of keywords v ≡ k → 0 < k → Kinded w (Some k)
  unfolding kind_in Kinded
  keyword-so v k r h e i l = (sym i ∙ ap (kind_of keywords) (same_true v w (sym h ∙ e)), l)

  -- a kind that none of the entries has is not the word's
  pub kind-absent : (k : ℕ) (rs : List (Bytes × ℕ)) → absent k rs ≡ true → eqb k (kind_of rs w) ≡ false
  unfolding absent kind_of
  kind-absent k [] h = not_so (eqb k 0) h
  kind-absent k (r ∷ rs) h = let (i, j) = and₂ (not (eqb k r.1)) (absent k rs) h in go (same_bytes r.0 w) i (kind-absent k rs j)
    where
      go : (b : Bool) → not (eqb k r.1) ≡ true → eqb k (kind_of rs w) ≡ false → eqb k (cond b r.1 (kind_of rs w)) ≡ false
      go true i j = not_so (eqb k r.1) i
      go false i j = j

-- the words of the entries are those with a kind
module _ (w : Bytes) where
  among-kind : (rs : List (Bytes × ℕ)) → distinct rs ≡ true → eqb (kind_of rs w) 0 ≡ not (among (map (λ r. r.0) rs) w)
  unfolding distinct kind_of among
  among-kind [] h = refl
  among-kind (r ∷ rs) h = let (i, j) = and₂ (absent r.1 rs) (distinct rs) h in go (same_bytes r.0 w) (absent-zero r.1 rs i) (among-kind rs j)
    where
      go : (b : Bool) → eqb r.1 0 ≡ false → eqb (kind_of rs w) 0 ≡ not (among (map (λ r. r.0) rs) w)
          → eqb (cond b r.1 (kind_of rs w)) 0 ≡ not (b || among (map (λ r. r.0) rs) w)
      go true i j = i
      go false i j = j

  kind-none : eqb (kind_in w) 0 ≡ not (among reserved w)
  unfolding Words kind_in
  kind-none = among-kind keywords keywords-distinct

  -- none of the words of its length
  pub keyword-not : (p : ℕ → Bool) → p (length w) ≡ true → Unlike (sized p keywords) w → Kinded w None
  unfolding kind_in Kinded
  keyword-not p l u = sym (sym (by_length w p l keywords) ∙ unlike-none w (sized p keywords) u)

pub slice-sized : (p : ℕ → Bool) (t : Bytes) (at e : ℕ) → Sized p t at e → p (length (slice at e t)) ≡ true
slice-sized p t at e h = rw (length-slice at e t h.within) h.size

module _ (t : Bytes) (at e : ℕ) (h : (at ≤ e) × (e ≤ length t)) where
  pub sized-so : (n : ℕ) → e - at ≡ n → Sized (eqb n) t at e
  sized-so n k = record { from = h.0; within = h.1; size = eq-eqb n (e - at) (sym k) }

  pub sized-others : (e - at ≡ 3 → ⊥) → (e - at ≡ 4 → ⊥) → (e - at ≡ 7 → ⊥) → Sized others t at e
  unfolding others
  sized-others x y z = record { from = h.0; within = h.1; size = rw (ne_eqb (e - at) 3 x, ne_eqb (e - at) 4 y, ne_eqb (e - at) 7 z) }

-- what the comparisons compute by
unfoldable pub Compared : Unit {0}
unfolding Base Words sized Unlike others
Compared = tt

-- ---- words
item-all : (i : Bytes) → all in_word (item i).0 ≡ true
unfolding item all
item-all [] = refl
item-all (b ∷ i) = go (in_word b) refl (item-all i)
  where
    go : (c : Bool) → in_word b ≡ c → all in_word (item i).0 ≡ true → all in_word (item (b ∷ i)).0 ≡ true
    go true e ih = rw (e, item) (rw e ih)
    go false e ih = rw (e, item)

module _ (t : Bytes) (at e : ℕ) (h : Run t at e) where
  pub run-all : all in_word (slice at e t) ≡ true
  run-all = rw (← h.is) (item-all (drop at t))

  pub word-empty : e ≡ at → false ≡ is_word (slice at e t)
  unfolding is_word letter_first
  word-empty k = rw (k, slice_empty at t)

  pub word-long : 12 < e - at → false ≡ is_word (slice at e t)
  unfolding is_word
  word-long k =
      let l = length-slice at e t h.within in
      sym (long (letter_first (slice at e t) && all in_word (slice at e t)) _ _ (lt-leb (length (slice at e t)) 12 (omega arith)))
    where
      long : (a b c : Bool) → b ≡ false → (a && b && c) ≡ false
      long true b c e = rw e
      long false b c e = refl

  first : (e ≡ at → ⊥) → letter_first (slice at e t) ≡ is_letter (get_or t at 0)
  unfolding letter_first
  first n = rw (slice-cons at e t 0 (omega (arith, h.from)) h.within)

  pub word_first : (r : Bool) → (e ≡ at → ⊥) → r ≡ is_letter (get_or t at 0) → r ≡ false → false ≡ is_word (slice at e t)
  unfolding is_word
  word_first r n p q = rw (first n ∙ sym p ∙ q)

  pub word-so : (r : Bool) (k : Option ℕ) → (e ≡ at → ⊥) → e - at ≤ 12 → r ≡ is_letter (get_or t at 0) → r ≡ true
      → Kinded (slice at e t) k → is_none k ≡ is_word (slice at e t)
  unfolding is_word Kinded
  word-so r k n l p q i = go k i ∙ rest
    where
      rest : eqb (kind_in (slice at e t)) 0 ≡ (letter_first (slice at e t) && all in_word (slice at e t) && leb (length (slice at e t)) 12 && not (among reserved (slice at e t)))
      rest =
          let m = length-slice at e t h.within in
          rw (first n ∙ sym p ∙ q, run-all, le-leb (length (slice at e t)) 12 (omega arith)) (kind-none (slice at e t))

      go : (k : Option ℕ) → Kinded (slice at e t) k → is_none k ≡ eqb (kind_in (slice at e t)) 0
      go (Some k) i = let a = i.0 in let b = i.1 in sym (ne_eqb (kind_in (slice at e t)) 0 (λ z. omega arith))
      go None i = rw (← i)

pub ruleset laws = (rules, unlike, keyword-so, slice-sized, sized-so, sized-others, word-empty, word-long, word_first, word-so)
