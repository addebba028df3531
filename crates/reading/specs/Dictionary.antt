-- The dictionary of any text: its words are different, none is `apply`, and each word that stands in the text by itself has a
-- number. The invariant is on the words found so far, as the text is gone through. Assumes nothing.
use Rattle.std.specs.Prelude.{◌≡◌, refl, Bool, true, false, ◌&&◌, not, List, [], ◌∷◌, ◌++◌, ℕ, suc, ◌≤◌, length, if◌then◌else◌}
use Rattle.std.proofs.Common.{sym, ap, ◌∙◌, append_assoc, append-nil, arith}
use Rattle.std.proofs.lemmas.Bool.{not-true}
use Rattle.atlite.specs.Base.{bytes, same_bytes, all}
use Rattle.atlite.specs.Lexicon.{Bytes, among, is_word, in_word, noted, words_from, words_of, without_apply, dictionary}
use Rattle.atlite.specs.Valid.{words_hold}
use Rattle.atlite_laws.specs.Facts.{and₂, or-false, same_true, same-false-sym}

-- different words
Separate : List Bytes → Type 0
Separate [] = Unit {0}
Separate (w ∷ ws) = (is_word w ≡ true) × (among ws w ≡ false) × Separate ws

among-last : (ws : List Bytes) (v w : Bytes) → among ws v ≡ false → same_bytes w v ≡ false → among (ws ++ (w ∷ [])) v ≡ false
unfolding among
among-last [] v w h e = rw e
among-last (u ∷ ws) v w h e = let p = or-false (same_bytes u v) (among ws v) h in rw p.0 (among-last ws v w p.1 e)

separate-last : (ws : List Bytes) (w : Bytes) → Separate ws → is_word w ≡ true → among ws w ≡ false → Separate (ws ++ (w ∷ []))
unfolding Separate among
separate-last [] w s h e = (h, refl, tt)
separate-last (v ∷ ws) w s h e =
    let p = or-false (same_bytes v w) (among ws w) e in
    (s.0, among-last ws v w s.1 (same-false-sym v w p.0), separate-last ws w s.2 h p.1)

separate-noted : (ws : List Bytes) (w : Bytes) → Separate ws → Separate (noted ws w)
unfolding noted
separate-noted ws w s = go (is_word w && not (among ws w)) refl
  where
    go : (b : Bool) → (is_word w && not (among ws w)) ≡ b → Separate (if b then ws ++ (w ∷ []) else ws)
    go true e = let p = and₂ (is_word w) (not (among ws w)) e in separate-last ws w s p.0 (not-true (among ws w) p.1)
    go false e = s

separate-words : (i : Bytes) (ws : List Bytes) (w : Bytes) → Separate ws → Separate (words_from ws w i)
unfolding words_from
separate-words [] ws w s = separate-noted ws w s
separate-words (b ∷ i) ws w s =
    separate-words i (if in_word b then ws else noted ws w) (if in_word b then w ++ (b ∷ []) else []) (go (in_word b))
  where
    go : (c : Bool) → Separate (if c then ws else noted ws w)
    go true = s
    go false = separate-noted ws w s

-- `apply` stood once, if at all
separate-holds : (ws : List Bytes) → Separate ws → among ws (bytes "apply") ≡ false → words_hold ws ≡ true
unfolding Separate among words_hold
separate-holds [] s h = refl
separate-holds (w ∷ ws) s h =
    let p = or-false (same_bytes w (bytes "apply")) (among ws (bytes "apply")) h in
    rw (s.0, p.0, s.1) (separate-holds ws s.2 p.1)

among-without : (ws : List Bytes) (v : Bytes) → among ws v ≡ false → among (without_apply ws) v ≡ false
unfolding among without_apply
among-without [] v h = refl
among-without (w ∷ ws) v h = go (same_bytes w (bytes "apply")) (among-without ws v p.1)
  where
    p : (same_bytes w v ≡ false) × (among ws v ≡ false)
    p = or-false (same_bytes w v) (among ws v) h

    go : (b : Bool) → among (without_apply ws) v ≡ false → among (if b then ws else w ∷ without_apply ws) v ≡ false
    go true k = p.1
    go false k = rw p.0 k

without-holds : (ws : List Bytes) → Separate ws → words_hold (without_apply ws) ≡ true
unfolding Separate without_apply words_hold
without-holds [] s = refl
without-holds (w ∷ ws) s = go (same_bytes w (bytes "apply")) refl (without-holds ws s.2)
  where
    go : (b : Bool) → same_bytes w (bytes "apply") ≡ b → words_hold (without_apply ws) ≡ true
        → words_hold (if b then ws else w ∷ without_apply ws) ≡ true
    go true e k = separate-holds ws s.2 (rw (same_true w (bytes "apply") e) at s.1)
    go false e k = rw (s.0, e, among-without ws w s.1) k

pub dictionary-holds : (t : Bytes) → words_hold (dictionary t) ≡ true
unfolding dictionary words_of Separate
dictionary-holds t = without-holds (words_of t) (separate-words t [] [] tt)

without-length : (ws : List Bytes) → length (without_apply ws) ≤ length ws
unfolding without_apply
without-length [] = omega arith
without-length (w ∷ ws) = go (same_bytes w (bytes "apply")) (without-length ws)
  where
    go : (b : Bool) → length (without_apply ws) ≤ length ws → length (if b then ws else w ∷ without_apply ws) ≤ suc (length ws)
    go true k = omega arith
    go false k = omega arith

pub dictionary-length : (t : Bytes) → length (dictionary t) ≤ length (words_of t)
unfolding dictionary
dictionary-length t = without-length (words_of t)

words-in : (b : ℕ) (i : Bytes) (ws : List Bytes) (w : Bytes) → in_word b ≡ true
    → words_from ws w (b ∷ i) ≡ words_from ws (w ++ (b ∷ [])) i
unfolding words_from
words-in b i ws w h = rw h

pub words-run : (v j : Bytes) (ws : List Bytes) (w : Bytes) → all in_word v ≡ true → words_from ws w (v ++ j) ≡ words_from ws (w ++ v) j
unfolding all
words-run [] j ws w h = ap (λ u. words_from ws u j) (sym (append-nil w))
words-run (b ∷ v) j ws w h =
    let p = and₂ (in_word b) (all in_word v) h in
    words-in b (v ++ j) ws w p.0 ∙ words-run v j ws (w ++ (b ∷ [])) p.1 ∙ ap (λ u. words_from ws u j) (append_assoc w (b ∷ []) v)
