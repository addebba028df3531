-- The dictionary is found run by run: a run is noted as the definition notes it, and what is left of the text has the other
-- words. Assumes nothing.
use Rattle.std.specs.Prelude.{◌≡◌, Bool, ◌&&◌, ◌||◌, not, ℕ, suc, ◌+◌, ◌-◌, ◌≤◌, ◌<◌, ltb, length, get_or, drop, set, if◌then◌else◌, take, Option, Some, None, is_some}
use Rattle.std.proofs.Math.Path.{refl, sym, ap, subst as transp}
use Rattle.std.proofs.Common.{◌∙◌, arith, rules, ltb-true, ltb-false, length-set, length-append, drop_of_length-le, get_or-set_same, get_or-set_other, drop-drop}
use Rattle.std.proofs.Math.Bool.{true, false}
use Rattle.std.proofs.lemmas.Bool.{false≢true}
use mathlib.Core.List.{List, [], ◌∷◌, ◌++◌}
use Rattle.std.proofs.Math.ListN.{get_or-append}
use Rattle.std.proofs.Math.Seq.{slice, get_or-append_seam, length-slice}
use Rattle.atlite.specs.Base.{bytes, same_bytes, all}
use Rattle.atlite.specs.Lexicon.{Bytes, in_word, is_word, among, noted, words_from, words_of, without_apply, dictionary, letter_first, is_letter, is_digit}
use Rattle.atlite.specs.Keywords.{Keywords}
use Rattle.atlite.specs.Reader.{item}
use Rattle.atlite_laws.specs.Facts.{both₂, or-false, same_true, same_refl, same-false-sym, tests-append}
use Rattle.reading.specs.Items.{Ends}
use Rattle.reading.specs.Dictionary.{words-run}
use Rattle.scan.specs.Runs.{Run}
use Rattle.scan.specs.Keywords.{among_none, among-some, index-le, run-all, slice-drop, slice-take}
use Rattle.scan.specs.WordNumbers.{low_part, high_part, Holds, Placed, Found, Noted, Scanning, Dictionary}
use Rattle.scan.specs.WordNumberLaws.{word-letters, word-few}

-- ---- the definition's steps
module _ (ws : List Bytes) (w : Bytes) where
  noted-known : is_word w && not (among ws w) ≡ false → noted ws w ≡ ws
  unfolding noted
  noted-known h = rw h

  noted-new : is_word w ≡ true → among ws w ≡ false → noted ws w ≡ ws ++ (w ∷ [])
  unfolding noted
  noted-new h e = rw (h, e)

or-none : (b : Bool) → (b || false) ≡ b
or-none true = refl
or-none false = refl

among-last : (ws : List Bytes) (v w : Bytes) → among (ws ++ (w ∷ [])) v ≡ (among ws v || same_bytes w v)
unfolding among
among-last [] v w = or-none (same_bytes w v)
among-last (u ∷ ws) v w = go (same_bytes u v) (among-last ws v w)
  where
    go : (b : Bool) → among (ws ++ (w ∷ [])) v ≡ (among ws v || same_bytes w v) → (b || among (ws ++ (w ∷ [])) v) ≡ (b || among ws v || same_bytes w v)
    go true e = refl
    go false e = e

-- words other than `apply` are kept, in their order
module _ (w : Bytes) (n : same_bytes w (bytes "apply") ≡ false) where
  among-without : (ws : List Bytes) → among (without_apply ws) w ≡ among ws w
  unfolding among without_apply
  among-without [] = refl
  among-without (u ∷ ws) = go (same_bytes u (bytes "apply")) refl (same_bytes u w) refl (among-without ws)
    where
      go : (a : Bool) → same_bytes u (bytes "apply") ≡ a → (b : Bool) → same_bytes u w ≡ b → among (without_apply ws) w ≡ among ws w
          → among (if a then ws else u ∷ without_apply ws) w ≡ (b || among ws w)
      go true e true f ih = absurd (false≢true (sym n ∙ ap (λ v. same_bytes v (bytes "apply")) (sym (same_true u w f)) ∙ e))
      go true e false f ih = refl
      go false e b f ih = rw (f, ih)

  without-last : (ws : List Bytes) → without_apply (ws ++ (w ∷ [])) ≡ without_apply ws ++ (w ∷ [])
  unfolding without_apply
  without-last [] = rw n
  without-last (u ∷ ws) = go (same_bytes u (bytes "apply")) (without-last ws)
    where
      go : (a : Bool) → without_apply (ws ++ (w ∷ [])) ≡ without_apply ws ++ (w ∷ [])
          → (if a then ws ++ (w ∷ []) else u ∷ without_apply (ws ++ (w ∷ []))) ≡ (if a then ws else u ∷ without_apply ws) ++ (w ∷ [])
      go true ih = refl
      go false ih = rw ih

without-none : (ws : List Bytes) → among ws (bytes "apply") ≡ false → without_apply (ws ++ (bytes "apply" ∷ [])) ≡ without_apply ws
unfolding among without_apply
without-none [] h = rw (same_refl (bytes "apply"))
without-none (u ∷ ws) h =
    let p = or-false (same_bytes u (bytes "apply")) (among ws (bytes "apply")) h in
    rw (p.0, without-none ws p.1)

without-total : (ws : List Bytes) → length ws ≡ length (without_apply ws) + (if among ws (bytes "apply") then 1 else 0)
unfolding among without_apply
without-total [] = refl
without-total (u ∷ ws) = go (same_bytes u (bytes "apply")) (among ws (bytes "apply")) (without-total ws)
  where
    go : (a b : Bool) → length ws ≡ length (without_apply ws) + (if b then 1 else 0)
        → suc (length ws) ≡ length (if a then ws else u ∷ without_apply ws) + (if (a || b) then 1 else 0)
    go true b e = omega arith
    go false true e = omega arith
    go false false e = omega arith

-- ---- the arrays
pub word-nonempty : (w : Bytes) → is_word w ≡ true → 0 < length w
unfolding is_word letter_first
word-nonempty [] h = absurd (false≢true h)
word-nonempty (b ∷ w) h = omega arith

below-or-last : (i n : ℕ) → i < n + 1 → (P : Type 0) → (i < n → P) → (i ≡ n → P) → P
below-or-last i n h P f g = go (ltb i n) refl
  where
    go : (b : Bool) → ltb i n ≡ b → P
    go true e = f (ltb-true i n e)
    go false e = let k = ltb-false i n e in g (omega arith)

entry-last : (part : Bytes → ℕ) (vs : List Bytes) (w : Bytes) (entries : List ℕ) (n x : ℕ) → n ≡ length vs → n < length entries
    → x ≡ part w → ((i : ℕ) → i < n → get_or entries i 0 ≡ part (get_or vs i []))
    → (i : ℕ) → i < n + 1 → get_or (set entries n x) i 0 ≡ part (get_or (vs ++ (w ∷ [])) i [])
entry-last part vs w entries n x m b p old i k =
    below-or-last i n k _
    (λ l. get_or-set_other entries n i x 0 (λ e. omega arith) ∙ old i l ∙ ap part (sym (get_or-append vs (w ∷ []) [] i (omega arith))))
    (λ e. rw e (get_or-set_same entries n x 0 b ∙ p ∙ ap part (sym (rw m (get_or-append_seam vs w [] [])))))

holds-last : (vs : List Bytes) (w : Bytes) (low high : List ℕ) (n l h : ℕ) → Holds vs low high n → is_word w ≡ true
    → l ≡ low_part w → h ≡ high_part w → n < length low → n < length high → Holds (vs ++ (w ∷ [])) (set low n l) (set high n h) (n + 1)
unfolding all
holds-last vs w low high n l h s u lo hi b c = record {
  words = tests-append is_word vs (w ∷ []) s.words (both₂ u refl);
  counted = let m = s.counted in omega (arith, length-append vs (w ∷ []));
  lows = entry-last low_part vs w low n l s.counted b lo s.lows;
  highs = entry-last high_part vs w high n h s.counted c hi s.highs;
}

-- ---- a run
module _ (w : Bytes) (low high : List ℕ) (n : ℕ) (a : Bool) where
  same : (ws : List Bytes) → noted ws w ≡ ws → Found ws low high n a → Found (noted ws w) low high n a
  same ws e f = rw e f

  pub note-none : (r : Bool) → r ≡ is_word w → r ≡ false → Noted w low high n a low high n a
  note-none r h k = record { kept = λ ws f. same ws (noted-known ws w (rw (sym h ∙ k))) f; more = omega arith; some = omega arith; lows = refl; highs = refl }

  apply-found : (ws : List Bytes) → Found ws low high n a → Found (noted ws (bytes "apply")) low high n true
  unfolding Keywords bytes is_word letter_first all in_word is_letter is_digit among same_bytes
  apply-found ws f = go (among ws (bytes "apply")) refl
    where
      go : (b : Bool) → among ws (bytes "apply") ≡ b → Found (noted ws (bytes "apply")) low high n true
      go true e = rw (noted-known ws (bytes "apply") (rw e)) (record { held = f.held; marked = sym e })
      go false e =
          rw (noted-new ws (bytes "apply") refl e)
          (record { held = rw (without-none ws e) f.held; marked = sym (rw (among-last ws (bytes "apply") (bytes "apply"), e)) })

  pub note-apply : (r s : Bool) → r ≡ is_word w → r ≡ true → s ≡ same_bytes (97 ∷ 112 ∷ 112 ∷ 108 ∷ 121 ∷ []) w → s ≡ true → Noted w low high n a low high n true
  unfolding bytes
  note-apply r s h k p q = record {
    kept = λ ws f. transp (λ v. Found (noted ws v) low high n true) (same_true (bytes "apply") w (sym p ∙ q)) (apply-found ws f);
    more = omega arith;
    some = omega arith;
    lows = refl;
    highs = refl;
  }

pub word-is : (w : Bytes) (r : Bool) → r ≡ is_word w → r ≡ true → is_word w ≡ true
word-is w r h k = sym h ∙ k

pub not-apply : (w : Bytes) (r : Bool) → r ≡ same_bytes (97 ∷ 112 ∷ 112 ∷ 108 ∷ 121 ∷ []) w → r ≡ false → same_bytes (bytes "apply") w ≡ false
unfolding bytes
not-apply w r h k = sym h ∙ k

pub word_room : (t : Bytes) (at e : ℕ) → Run t at e → is_word (slice at e t) ≡ true → e - at ≤ 12
word_room t at e h k = omega (arith, word-few (slice at e t) k, length-slice at e t h.within)

module _ (w : Bytes) (low high : List ℕ) (n : ℕ) (a : Bool) (l h : ℕ) (u : is_word w ≡ true) (v : same_bytes (bytes "apply") w ≡ false)
    (lo : l ≡ low_part w) (hi : h ≡ high_part w) where
  pub note-known : (o : Option ℕ) (r : Bool) → Placed low high n l h o → is_some o ≡ not r → r ≡ false → Noted w low high n a low high n a
  unfolding Placed
  note-known None r p e z = absurd (false≢true (e ∙ ap not z))
  note-known (Some i) r p e z = record {
    kept = λ ws f.
        let m = f.held.counted in
        let k = p.0 in
        let x = p.1 (without_apply ws) w f.held u lo hi in
        let y : among ws w ≡ true = sym (among-without w (same-false-sym (bytes "apply") w v) ws) ∙ among-some w (without_apply ws) (omega arith) in
        same w low high n a ws (noted-known ws w (rw (u, y))) f;
    more = omega arith;
    some = omega arith;
    lows = refl;
    highs = refl;
  }

  pub note-new : (o : Option ℕ) (r : Bool) → Placed low high n l h o → is_some o ≡ not r → r ≡ true → n < length low → n < length high
      → Noted w low high n a (set low n l) (set high n h) (n + 1) a
  unfolding Placed
  note-new (Some i) r p e z b c = absurd (false≢true (sym (e ∙ ap not z)))
  note-new None r p e z b c = record {
    kept = λ ws f.
        let m = f.held.counted in
        let x = p (without_apply ws) w f.held u lo hi in
        let d = index-le w (without_apply ws) in
        let z = same-false-sym (bytes "apply") w v in
        let y : among ws w ≡ false = sym (among-without w z ws) ∙ among_none w (without_apply ws) (omega arith) in
        rw (noted-new ws w u y) (record {
          held = rw (without-last w z ws) (holds-last (without_apply ws) w low high n l h f.held u lo hi b c);
          marked = f.marked ∙ sym (among-last ws (bytes "apply") w ∙ rw z (or-none (among ws (bytes "apply"))));
        });
    more = omega arith;
    some = omega (arith, word-nonempty w u);
    lows = length-set low n l;
    highs = length-set high n h;
  }

-- a run as the code cuts it out
module _ (t : Bytes) (at e : ℕ) where
  pub cut-word : (r : Bool) → r ≡ is_word (slice at e t) → r ≡ true → is_word (take (e - at) (drop at t)) ≡ true
  cut-word r h k = rw (← slice-take at e t) (sym h ∙ k)

  pub cut-other : (r : Bool) → r ≡ same_bytes (97 ∷ 112 ∷ 112 ∷ 108 ∷ 121 ∷ []) (slice at e t) → r ≡ false → same_bytes (bytes "apply") (take (e - at) (drop at t)) ≡ false
  unfolding bytes
  cut-other r h k = rw (← slice-take at e t) (sym h ∙ k)

  pub cut-noted : (low high : List ℕ) (n : ℕ) (a : Bool) (low' high' : List ℕ) (n' : ℕ) (a' : Bool) → Noted (take (e - at) (drop at t)) low high n a low' high' n' a'
      → Noted (slice at e t) low high n a low' high' n' a'
  cut-noted low high n a low' high' n' a' k = rw (slice-take at e t) k

-- ---- the text
-- behind a run the next byte, if there is one, ends it
words-end : (j : Bytes) (ws : List Bytes) (w : Bytes) → Ends j → words_from ws w j ≡ words_from (noted ws w) [] (drop 1 j)
unfolding words_from noted is_word letter_first
words-end [] ws w e = refl
words-end (b ∷ j) ws w e = rw e

item-ends : (i : Bytes) → Ends (item i).1
unfolding item
item-ends [] = tt
item-ends (b ∷ i) = go (in_word b) refl (item-ends i)
  where
    go : (c : Bool) → in_word b ≡ c → Ends (item i).1 → Ends (item (b ∷ i)).1
    go true e ih = rw (e, item) ih
    go false e ih = rw (e, item) e

module _ (t : Bytes) (low high : List ℕ) where
  pub scanning-none : Scanning t 0 low high 0 false
  unfolding words_of without_apply among all
  scanning-none = record {
    words = [];
    left = refl;
    found = record {
      held = record { words = refl; counted = refl; lows = λ i k. absurd (omega arith); highs = λ i k. absurd (omega arith) };
      marked = refl;
    };
    room = omega arith;
    within = omega arith;
  }

  pub scanned : (at n : ℕ) (a : Bool) → length t ≤ at → length t ≤ 4096 → Scanning t at low high n a → Dictionary t low high n a
  unfolding dictionary words_from noted is_word letter_first
  scanned at n a k l s =
      let e : words_of t ≡ s.words = s.left ∙ rw (drop_of_length-le t k) in
      let m = s.found.held.counted in
      let r = s.room in
      let w = s.within in
      record {
        held = rw e s.found.held;
        marked = rw e s.found.marked;
        total = rw (e, s.found.marked) (without-total s.words ∙ (omega arith));
        room = omega arith;
      }

  pub scanning-more : (low' high' : List ℕ) (at e n n' : ℕ) (a a' : Bool) → Scanning t at low high n a → Run t at e
      → Noted (slice at e t) low high n a low' high' n' a' → Scanning t (e + 1) low' high' n' a'
  scanning-more low' high' at e n n' a a' s h k =
      let r = s.room in
      let i = k.more in
      let j = k.some in
      let f = h.from in
      let v = h.within in
      let l = length-slice at e t v in
      record {
        words = noted s.words (slice at e t);
        left =
            s.left
            ∙ ap (words_from s.words []) (sym (slice-drop at e t f))
            ∙ words-run (slice at e t) (drop e t) s.words [] (run-all t at e h)
            ∙ words-end (drop e t) s.words (slice at e t) (transp Ends h.rest (item-ends (drop at t)))
            ∙ ap (words_from (noted s.words (slice at e t)) []) (drop-drop 1 e t);
        found = k.kept s.words s.found;
        room = omega arith;
        within = omega arith;
      }

pub ruleset laws = (rules, word-letters, word-few, note-none, note-apply, word-is, not-apply, word_room, note-known, note-new, cut-word, cut-other, cut-noted, scanning-none, scanned, scanning-more)
