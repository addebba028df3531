-- What each way through the functions over zeros, values and names returns. Assumes nothing.
use Rattle.std.specs.List.{list_all}
use Rattle.std.specs.Prelude.{ℕ, zero, suc, ◌+◌, ◌-◌, ◌≤◌, ◌<◌, ◌/◌, ◌%◌, ◌≡◌, refl, Bool, true, false, ◌&&◌, not, List, ◌++◌, eqb, length, take, drop, get_or, if◌then◌else◌}
use Rattle.std.proofs.Math.Path.{sym}
use Rattle.std.proofs.Common.{ap, ◌∙◌, rules, add-one, drop-cons, take-append-drop, length-drop, length-take-le, take_at}
use Rattle.std.proofs.Math.Option.{Option, none, some}
use native.Mathlib.Omega.{arith}
use borrow.Author.Tests.{eq-eqb, ne_eqb}
use Rattle.atlite.specs.Base.{member, all, any}
use Rattle.atlite.specs.Term.{Value}
use Rattle.atlite.specs.Valid.{is_name}
use Rattle.layout.specs.Numbers.{name_limit}
use Rattle.layout.specs.Pack.{zeros}
use Rattle.layout_laws.specs.PackLaws.{length-zeros}
use Rattle.decoding.specs.Reading.{names_in}
use Rattle.layout_laws.specs.Parse.{value_at, before, values_at, zeros_at}
use Rattle.layout_laws.proofs.ParseMessages.{zeros-at, zeros-read}
use Rattle.words.specs.Runs.{Same}
use Rattle.term_words.specs.Kinds.{allowed}
use Rattle.term_words.specs.Words.{within, holds}
use Rattle.actor.specs.Tests.{names_hold}

-- ---- zeros
module _ (w : List ℕ) (at n : ℕ) (l : at + n ≤ length w) where
  abbrev part : List ℕ
  part = take n (drop at w)

  part_length : length part ≡ n
  part_length = length-take-le n (drop at w) (omega (arith, length-drop at w))

  -- the words are zeros just where the part is
  zeros-part : zeros_at w n at ≡ true → part ≡ zeros n
  zeros-part h =
      let s = zeros-at w n at l h in
      ap (take n) s.0 ∙ take_at (zeros n) (drop (at + n) w) n (length-zeros n)

  part-zeros : part ≡ zeros n → zeros_at w n at ≡ true
  part-zeros e = zeros-read n w at (drop n (drop at w)) (sym (take-append-drop n (drop at w)) ∙ ap (λ y. y ++ drop n (drop at w)) e)

  pub zeros-return : (r : Bool) → Same (take (at + n - at) (drop at w)) (zeros (length (take (at + n - at) (drop at w)))) r → r ≡ zeros_at w n at
  zeros-return r s = let z : at + n - at ≡ n = omega arith in go r (zeros_at w n at) refl (rw (z, part_length) at s)
    where
      go : (r b : Bool) → zeros_at w n at ≡ b → Same part (zeros n) r → r ≡ b
      go true b e s = sym (part-zeros (s.sound refl)) ∙ e
      go false true e s = s.complete (zeros-part e)
      go false false e s = refl

pub ruleset zeros_laws = (rules, zeros-return)

-- ---- values
within-before : (p : Value → Bool) (o : Option Value) (l : Option (List Value)) → within (all p) (before o l) ≡ (within p o && within (all p) l)
unfolding within all
within-before p none l = refl
within-before p (some v) none = and-false (p v)
  where
    and-false : (b : Bool) → false ≡ (b && false)
    and-false true = refl
    and-false false = refl
within-before p (some v) (some vs) = refl

-- one by one
module _ (K : List ℕ) (a : ℕ) (w : List ℕ) where
  values-listed : (n at : ℕ) → at + n ≤ length w → list_all (λ x. within (holds true K a) (value_at x)) (take n (drop at w)) ≡ within (all (allowed K a)) (values_at w n at)
  unfolding values_at all within holds
  values-listed zero at l = refl
  values-listed (suc n) at l =
      let h : at < length w = omega arith in
      rw (drop-cons w at 0 h, ← add-one at)
      (ap (λ b. within (allowed K a) (value_at (get_or w at 0)) && b) (values-listed n (at + 1) (omega arith)) ∙ sym (within-before (allowed K a) (value_at (get_or w at 0)) (values_at w n (at + 1))))

  pub values-return : (n at : ℕ) (r : Bool) → at + n ≤ length w → r ≡ list_all (λ x. within (holds true K a) (value_at x)) (take (at + n - at) (drop at w)) → r ≡ within (all (allowed K a)) (values_at w n at)
  values-return n at r l h = let z : at + n - at ≡ n = omega arith in rw z at h ∙ values-listed n at l

pub ruleset values_laws = (rules, values-return)

-- ---- names
module _ (x n y : ℕ) where
  pub among_none : n ≡ 0 → false ≡ member y (names_in n x)
  unfolding any names_in
  among_none e = rw e

  module _ (z : n ≡ 0 → ⊥) where
    step-among : (m : ℕ) → n ≡ suc m → member y (names_in n x) ≡ (if eqb y (x % name_limit) then true else member y (names_in m (x / name_limit)))
    unfolding any names_in
    step-among m k = rw k

    pub among-here : y ≡ x % name_limit → true ≡ member y (names_in n x)
    among-here e = rw (step-among (n - 1) (omega arith), eq-eqb y (x % name_limit) e)

    pub among-more : (y ≡ x % name_limit → ⊥) → (r : Bool) → r ≡ member y (names_in (n - 1) (x / name_limit)) → r ≡ member y (names_in n x)
    among-more e r h = rw (step-among (n - 1) (omega arith), ne_eqb y (x % name_limit) e) h

pub ruleset among_laws = (rules, among_none, among-here, among-more)

module _ (W x n : ℕ) where
  pub names-none : n ≡ 0 → eqb x 0 ≡ names_hold W n x
  unfolding names_hold
  names-none e = rw e

  module _ (z : n ≡ 0 → ⊥) (v : Bool) (e : v ≡ is_name W (x % name_limit)) where
    step-names : (m : ℕ) → n ≡ suc m → names_hold W n x ≡ (v && not (member (x % name_limit) (names_in m (x / name_limit))) && names_hold W m (x / name_limit))
    unfolding names_hold
    step-names m k = rw (k, e)

    pub names-other : v ≡ false → false ≡ names_hold W n x
    names-other t = rw (step-names (n - 1) (omega arith), t)

    module _ (t : v ≡ true) (u : Bool) (d : u ≡ member (x % name_limit) (names_in (n - 1) (x / name_limit))) where
      pub names-twice : u ≡ true → false ≡ names_hold W n x
      names-twice s = rw (step-names (n - 1) (omega arith), t, ← d, s)

      pub names_more : u ≡ false → (r : Bool) → r ≡ names_hold W (n - 1) (x / name_limit) → r ≡ names_hold W n x
      names_more s r h = rw (step-names (n - 1) (omega arith), t, ← d, s) h

pub ruleset names_laws = (rules, names-none, names-other, names-twice, names_more)
