-- Words and their numbers: under a dictionary of different words a name is printed as the word that is read as that name, and
-- a word that has a number is what that number prints as. Assumes nothing.
use Rattle.std.specs.Prelude.{◌≡◌, refl, Bool, true, false, not, List, [], ◌∷◌, ℕ, zero, suc, ◌+◌, ◌-◌, ◌≤◌, ◌<◌, length, get_or, leb, ltb, if◌then◌else◌}
use Rattle.std.proofs.Common.{sym, ap, ◌∙◌, subst as transp, arith, leb-true, ltb-true, ltb-false, le-leb, lt-ltb, le-ltb}
use Rattle.std.proofs.Math.Option.{some}
use Rattle.std.proofs.lemmas.Bool.{not-true}
use Rattle.atlite.specs.Base.{Base, bytes, same_bytes}
use Rattle.atlite.specs.Term.{apply, first_word}
use Rattle.atlite.specs.Lexicon.{Bytes, among, is_word, place, number_of, Lexicon}
use Rattle.atlite.specs.Printer.{known, print_word}
use Rattle.atlite.specs.Valid.{is_name, words_hold}
use Rattle.atlite_laws.specs.Facts.{and₂, both₂, or-false, same_true, same_refl, same-false-sym, none-some}

-- what `words_hold` says of the first word
first_holds : (w : Bytes) (ws : List Bytes) → words_hold (w ∷ ws) ≡ true
    → (is_word w ≡ true) × (same_bytes w (bytes "apply") ≡ false) × (among ws w ≡ false) × (words_hold ws ≡ true)
unfolding words_hold
first_holds w ws h =
    let p = and₂ _ (words_hold ws) h in
    let q = and₂ _ (not (among ws w)) p.0 in
    let r = and₂ (is_word w) (not (same_bytes w (bytes "apply"))) q.0 in
    (r.0, not-true _ r.1, not-true _ q.1, p.1)

word_at : (ws : List Bytes) (k : ℕ) → words_hold ws ≡ true → k < length ws
    → (is_word (get_or ws k []) ≡ true) × (same_bytes (get_or ws k []) (bytes "apply") ≡ false)
word_at [] k h l = absurd (omega arith)
word_at (w ∷ ws) zero h l = let p = first_holds w ws h in (p.0, p.1)
word_at (w ∷ ws) (suc k) h l = word_at ws k (first_holds w ws h).3 (omega arith)

among-at : (ws : List Bytes) (w : Bytes) (k : ℕ) → among ws w ≡ false → k < length ws → same_bytes (get_or ws k []) w ≡ false
unfolding among
among-at [] w k h l = absurd (omega arith)
among-at (v ∷ ws) w zero h l = (or-false (same_bytes v w) (among ws w) h).0
among-at (v ∷ ws) w (suc k) h l = among-at ws w k (or-false (same_bytes v w) (among ws w) h).1 (omega arith)

place_at : (n : ℕ) (ws : List Bytes) (k : ℕ) → words_hold ws ≡ true → k < length ws → place n ws (get_or ws k []) ≡ some (n + k)
unfolding place
place_at n [] k h l = absurd (omega arith)
place_at n (w ∷ ws) zero h l = let z : n ≡ n + 0 = omega arith in rw (same_refl w) (ap some z)
place_at n (w ∷ ws) (suc k) h l =
    let p = first_holds w ws h in
    let z : suc n + k ≡ n + suc k = omega arith in
    rw (same-false-sym (get_or ws k []) w (among-at ws w k p.2 (omega arith))) (place_at (suc n) ws k p.3 (omega arith) ∙ ap some z)

place-some : (n : ℕ) (ws : List Bytes) (w : Bytes) (x : ℕ) → place n ws w ≡ some x
    → (k : ℕ) × (n + k ≡ x) × (k < length ws) × (get_or ws k [] ≡ w)
unfolding place
place-some n [] w x h = absurd (none-some h)
place-some n (v ∷ ws) w x h = go (same_bytes v w) refl h (place-some (suc n) ws w x)
  where
    go : (b : Bool) → same_bytes v w ≡ b → (if b then some n else place (suc n) ws w) ≡ some x
        → (place (suc n) ws w ≡ some x → (k : ℕ) × (suc n + k ≡ x) × (k < length ws) × (get_or ws k [] ≡ w))
        → (k : ℕ) × (n + k ≡ x) × (k < suc (length ws)) × (get_or (v ∷ ws) k [] ≡ w)
    go true e p ih = let q : n ≡ x = cc in (0, omega arith, omega arith, same_true v w e)
    go false e p ih = let r = ih p in let y = r.1 in let l = r.2 in (suc r.0, omega arith, omega arith, r.3)

-- a name is `apply` or stands in the dictionary
by_name : (w x : ℕ) (P : ℕ → Type 0) → is_name w x ≡ true → P apply → ((k : ℕ) → k < w → P (first_word + k)) → P x
unfolding is_name
by_name w x P h p q =
    let r = and₂ (leb apply x) (ltb x (first_word + w)) h in
    let l = leb-true apply x r.0 in
    let u = ltb-true x (first_word + w) r.1 in
    go (ltb x first_word) refl l u
  where
    go : (b : Bool) → ltb x first_word ≡ b → apply ≤ x → x < first_word + w → P x
    go true e l u = let i = ltb-true x first_word e in let z : apply ≡ x = omega arith in transp P z p
    go false e l u =
        let i = ltb-false x first_word e in let z : first_word + (x - first_word) ≡ x = omega arith in transp P z (q (x - first_word) (omega arith))

print-later : (ws : List Bytes) (k : ℕ) → print_word ws (first_word + k) ≡ get_or ws k []
unfolding print_word
print-later ws k =
    let z : (first_word + k) - first_word ≡ k = omega arith in
    rw (le-ltb (first_word + k) first_word (omega arith)) (ap (λ j. get_or ws j []) z)

-- A name under a dictionary: its word is one, and is read as the name.
pub name-word : (ws : List Bytes) (x : ℕ) → words_hold ws ≡ true → is_name (length ws) x ≡ true → is_word (print_word ws x) ≡ true
unfolding print_word known Base Lexicon
name-word ws x h n =
    by_name (length ws) x (λ y. is_word (print_word ws y) ≡ true) n refl (λ k l. rw (print-later ws k) (word_at ws k h l).0)

pub number-name : (ws : List Bytes) (x : ℕ) → words_hold ws ≡ true → is_name (length ws) x ≡ true
    → number_of ws (print_word ws x) ≡ some x
unfolding number_of print_word known Base
number-name ws x h n =
    by_name (length ws) x (λ y. number_of ws (print_word ws y) ≡ some y) n refl
    (λ k l. rw (print-later ws k, (word_at ws k h l).1) (place_at first_word ws k h l))

-- a word that has a number is that number's
pub number_word : (ws : List Bytes) (w : Bytes) (x : ℕ) → number_of ws w ≡ some x
    → (print_word ws x ≡ w) × (is_name (length ws) x ≡ true)
unfolding number_of print_word known is_name Base
number_word ws w x h = go (same_bytes w (bytes "apply")) refl h
  where
    Word : ℕ → Type 0
    Word y = (print_word ws y ≡ w) × (is_name (length ws) y ≡ true)

    go : (b : Bool) → same_bytes w (bytes "apply") ≡ b → (if b then some apply else place first_word ws w) ≡ some x → Word x
    go true e p =
        let q : apply ≡ x = cc in
        transp Word q (sym (same_true w (bytes "apply") e), lt-ltb apply (first_word + length ws) (omega arith))
    go false e p =
        let r = place-some first_word ws w x p in
        let l = r.2 in
        transp Word r.1 (
          print-later ws r.0 ∙ r.3,
          both₂ (le-leb apply (first_word + r.0) (omega arith)) (lt-ltb (first_word + r.0) (first_word + length ws) (omega arith)),
        )
