-- Where words stand among words: `Spans w at i xs` says that from `at` to `i` the words w have xs. Spans follow one another, and
-- one that is not empty lies within the words. Assumes nothing.
use Rattle.std.specs.Prelude.{ℕ, suc, ◌+◌, ◌-◌, ◌≤◌, ◌<◌, ◌≡◌, refl, List, [], ◌∷◌, ◌++◌, length, drop, get_or}
use Rattle.std.proofs.Common.{sym, ap, ◌∙◌, append_assoc, add-zero, arith, length-append, length-drop, get_or-drop, drop-drop, drop-cons}
use Rattle.std.proofs.Math.Seq.{drop-append_seam}

-- ---- a list from a position on
module _ (w : List ℕ) (at : ℕ) where
  pub drop_past : (xs r : List ℕ) → drop at w ≡ xs ++ r → drop (at + length xs) w ≡ r
  drop_past xs r e = sym (drop-drop (length xs) at w) ∙ ap (drop (length xs)) e ∙ drop-append_seam xs r

  pub drop-next : (x : ℕ) (r : List ℕ) → drop at w ≡ x ∷ r → drop (at + 1) w ≡ r
  drop-next x r e = drop_past (x ∷ []) r e

  pub drop-first : (x : ℕ) (r : List ℕ) → drop at w ≡ x ∷ r → get_or w at 0 ≡ x
  drop-first x r e = ap (λ k. get_or w k 0) (sym (add-zero at)) ∙ sym (get_or-drop at w 0 0) ∙ ap (λ l. get_or l 0 0) e

-- ---- spans
abbrev pub Spans : List ℕ → ℕ → ℕ → List ℕ → Type 0
Spans w at i xs = (drop at w ≡ xs ++ drop i w) × (i ≡ at + length xs)

module _ (w : List ℕ) where
  pub span_of : (at : ℕ) (xs r : List ℕ) → drop at w ≡ xs ++ r → Spans w at (at + length xs) xs
  span_of at xs r e = (e ∙ ap (λ l. xs ++ l) (sym (drop_past w at xs r e)), refl)

  pub span_none : (at : ℕ) → Spans w at at []
  span_none at = (refl, sym (add-zero at))

  pub span-end : (at i j : ℕ) (xs : List ℕ) → Spans w at i xs → i ≡ j → Spans w at j xs
  span-end at i j xs h e = rw e at h

  pub span-word : (at : ℕ) → at < length w → Spans w at (at + 1) (get_or w at 0 ∷ [])
  span-word at h = let e : at + 1 ≡ suc at = omega arith in (drop-cons w at 0 h ∙ ap (λ i. get_or w at 0 ∷ drop i w) (sym e), refl)

  pub span-join : (at i j : ℕ) (xs ys : List ℕ) → Spans w at i xs → Spans w i j ys → Spans w at j (xs ++ ys)
  span-join at i j xs ys h k = (h.0 ∙ ap (λ l. xs ++ l) k.0 ∙ sym (append_assoc xs ys (drop j w)), omega (arith, h.1, k.1, length-append xs ys))

  lengths : (at i : ℕ) (xs : List ℕ) → Spans w at i xs → length w - at ≡ length xs + (length w - i)
  lengths at i xs h = sym (length-drop at w) ∙ ap length h.0 ∙ length-append xs (drop i w) ∙ ap (λ k. length xs + k) (length-drop i w)

  pub span-inside : (at i : ℕ) (xs : List ℕ) → Spans w at i xs → 1 ≤ length xs → (at < i) × (i ≤ length w)
  span-inside at i xs h l = let e = lengths at i xs h in let d = h.1 in (omega arith, omega arith)

  -- no more words than are left
  pub span-short : (at i n : ℕ) (xs : List ℕ) → Spans w at i xs → length w ≤ at + n → length xs ≤ n
  span-short at i n xs h l = let e = lengths at i xs h in omega arith
