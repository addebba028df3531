-- The end of a run, and the comparison with given bytes, answer as they should: what the library's functions say of lists, in the words of
-- the reader. Assumes nothing.
use Rattle.std.specs.Prelude.{◌≡◌, refl, Bool, true, false, not, cond, ◌&&◌, ltb, [], ◌∷◌, ℕ, suc, ◌+◌, ◌-◌, ◌≤◌, eqb, length, take, drop, if◌then◌else◌, Some, None}
use Rattle.std.specs.List.{position, position_or_len, starts_with}
use Rattle.std.specs.Cmp.Lexicographic.{pointwise}
use Rattle.std.proofs.Common.{sym, ap, ◌∙◌, arith, rules, drop_of_length-le, length-drop, drop-drop, take_all, one-add}
use Rattle.std.proofs.Math.Option.{none, some}
use Rattle.std.proofs.Common.{ltb-false}
use Rattle.std.proofs.Math.Seq.{slice}
use Rattle.atlite.specs.Base.{same_bytes}
use Rattle.atlite.specs.Lexicon.{Bytes, in_word}
use Rattle.atlite.specs.Reader.{item, after}
use Rattle.scan.specs.Runs.{Run, Starts}
use Rattle.scan.specs.Keywords.{slice-take}

-- the text from `at` on, as the code cuts it
abbrev pub behind : Bytes → ℕ → Bytes
behind t at = take (length t - at) (drop at t)

behind-is : (t : Bytes) (at : ℕ) → behind t at ≡ drop at t
behind-is t at = take_all (length t - at) (drop at t) (omega (arith, length-drop at t))

-- ---- runs
-- what is no letter and no digit
abbrev pub outside : ℕ → Bool
outside b = not (in_word b)

item-take : (w : Bytes) → (item w).0 ≡ take (position_or_len outside w) w
unfolding item
item-take [] = refl
item-take (b ∷ w) = go (in_word b) (item-take w)
  where
    go : (c : Bool) → (item w).0 ≡ take (position_or_len outside w) w
        → (elim c as (λ d. Bytes × Bytes) [ true ↦ (b ∷ (item w).0, (item w).1) | false ↦ ([], b ∷ w) ]).0 ≡ take (cond (not (not c)) (1 + position_or_len outside w) 0) (b ∷ w)
    go true e = rw one-add (ap (λ (v : Bytes). b ∷ v) e)
    go false e = refl

item-drop : (w : Bytes) → (item w).1 ≡ drop (position_or_len outside w) w
unfolding item
item-drop [] = refl
item-drop (b ∷ w) = go (in_word b) (item-drop w)
  where
    go : (c : Bool) → (item w).1 ≡ drop (position_or_len outside w) w
        → (elim c as (λ d. Bytes × Bytes) [ true ↦ (b ∷ (item w).0, (item w).1) | false ↦ ([], b ∷ w) ]).1 ≡ drop (cond (not (not c)) (1 + position_or_len outside w) 0) (b ∷ w)
    go true e = rw one-add e
    go false e = refl

outside-within : (w : Bytes) → position_or_len outside w ≤ length w
outside-within [] = omega arith
outside-within (b ∷ w) = go (in_word b) (outside-within w)
  where
    go : (c : Bool) → position_or_len outside w ≤ length w → cond (not (not c)) (1 + position_or_len outside w) 0 ≤ suc (length w)
    go true h = omega arith
    go false h = omega arith

module _ (t : Bytes) (at : ℕ) (h : at ≤ length t) where
  run-here : (n : ℕ) → position_or_len outside (drop at t) ≡ n → Run t at (at + n)
  run-here n e =
      let l = outside-within (drop at t) in
      let z : at + n - at ≡ n = omega arith in
      record {
        from = omega arith;
        within = omega (arith, length-drop at t);
        is = item-take (drop at t) ∙ rw (e, slice-take at (at + n) t, z);
        rest = item-drop (drop at t) ∙ rw e (drop-drop n at t);
      }

  found : (b : Bool) (m n : ℕ) → cond b (Some m) None ≡ Some n → m ≡ n
  found true m n e = cc
  found false m n e = absurd (let z : ◌≡◌ {A = ℕ} 0 1 = cc in omega arith)

  pub run-stop : (n : ℕ) → Some n ≡ position outside (behind t at) → Run t at (at + n)
  run-stop n e = let z = rw behind-is at e in run-here n (found _ _ n (sym z))

  lost : (m : ℕ) → cond (ltb m (length (drop at t))) (Some m) None ≡ None → length (drop at t) ≤ m
  lost m e = go (ltb m (length (drop at t))) refl e
    where
      go : (b : Bool) → ltb m (length (drop at t)) ≡ b → cond b (Some m) None ≡ None → length (drop at t) ≤ m
      go true p q = absurd (let z : ◌≡◌ {A = ℕ} 0 1 = cc in omega arith)
      go false p q = ltb-false m (length (drop at t)) p

  pub run-last : None ≡ position outside (behind t at) → Run t at (length t)
  run-last d =
      let e = rw behind-is at d in
      let l = outside-within (drop at t) in
      let k = lost _ (sym e) in
      let z : at + (length t - at) ≡ length t = omega arith in
      rw z at (run-here (length t - at) (omega (arith, length-drop at t)))

-- ---- given bytes
pub same-pointwise : (v w : Bytes) → pointwise eqb v w ≡ same_bytes v w
unfolding same_bytes
same-pointwise [] [] = refl
same-pointwise [] (c ∷ w) = refl
same-pointwise (b ∷ v) [] = refl
same-pointwise (b ∷ v) (c ∷ w) = ap (λ r. eqb b c && r) (same-pointwise v w)

after-pointwise : (w i : Bytes) → after w i ≡ (if pointwise eqb w (take (length w) i) then some (drop (length w) i) else none)
unfolding after
after-pointwise [] i = refl
after-pointwise (b ∷ w) [] = refl
after-pointwise (b ∷ w) (c ∷ i) = go (eqb b c) (after-pointwise w i)
  where
    go : (r : Bool) → after w i ≡ (if pointwise eqb w (take (length w) i) then some (drop (length w) i) else none)
        → (if r then after w i else none) ≡ (if (r && pointwise eqb w (take (length w) i)) then some (drop (length w) i) else none)
    go true e = e
    go false e = refl

module _ (t : Bytes) (at : ℕ) (w : Bytes) where
  cut : (r : Bool) → at ≤ length t → (r ≡ true → length w ≤ length (drop at t)) → r ≡ starts_with eqb (drop at t) w → Starts t at w r
  unfolding Starts
  cut true h l e = (after-pointwise w (drop at t) ∙ rw (← e) (ap some (drop-drop (length w) at t)), omega (arith, l refl, length-drop at t))
  cut false h l e = after-pointwise w (drop at t) ∙ rw (← e)

  pub starts-as : (r : Bool) → at ≤ length t → (r ≡ true → length w ≤ length (behind t at)) → r ≡ starts_with eqb (behind t at) w → Starts t at w r
  starts-as r h l e = let m = rw behind-is at l in let z = rw behind-is at e in cut r h m z

pub named-as : (t : Bytes) (at e : ℕ) (w : Bytes) (r : Bool) → r ≡ pointwise eqb w (take (e - at) (drop at t)) → r ≡ same_bytes w (slice at e t)
named-as t at e w r h = h ∙ same-pointwise w (take (e - at) (drop at t)) ∙ ap (same_bytes w) (sym (slice-take at e t))

pub ruleset laws = (rules, run-stop, run-last, starts-as, named-as)
