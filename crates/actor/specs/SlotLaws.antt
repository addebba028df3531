-- What each way through the functions over slots returns. Assumes nothing.
use Rattle.std.specs.Prelude.{ℕ, zero, suc, ◌+◌, ◌-◌, ◌*◌, ◌≤◌, ◌<◌, ◌/◌, ◌%◌, ◌≡◌, Bool, ◌&&◌, ◌||◌, cond, Option as Maybe, Some, None, List, ltb, length, get_or}
use Rattle.std.specs.Bool.{then_some}
use Rattle.std.specs.Option.{option_and_then}
use Rattle.std.proofs.Math.Path.{refl, sym}
use Rattle.std.proofs.Common.{ap, ◌∙◌, add-one, rules}
use Rattle.std.proofs.Math.Bool.{true, false}
use Rattle.std.proofs.Math.Option.{none, some}
use native.Mathlib.Omega.{arith}
use borrow.Author.Tests.{eq-eqb, ne_eqb, lt-ltb, le-ltb}
use Rattle.std.proofs.Math.Dec.{eqb}
use Rattle.atlite.specs.Term.{made, null, ref}
use Rattle.layout.specs.Numbers.{payload, digit_limit, digits_limit, slot_unit, slot_size, slot_count}
use Rattle.decoding.specs.TermReading.{ref_in}
use Rattle.layout_laws.specs.Parse.{given, value_forms, value_in, value_at, parse_methods}
use Rattle.term_words.specs.Kinds.{kind_at, there, kind_of, future_by}
use Rattle.term_words.specs.Words.{within, holds}
use Rattle.term_words.specs.WordLaws.{none-there, some-there}
use Rattle.term_words.specs.Ends.{end_of, methods_hold}
use Rattle.actor.specs.declared.slots.Series.{Series}
use Rattle.actor.specs.declared.slots.Series.TheVariants.{Made, Copied}
use Rattle.actor.specs.Tests.{object_at, object_end, open_at, settled_at, resolver_at, slot_forms, made_end, copied_end, slot_end, slots_end}
use Rattle.actor.specs.Bodies.{methods_reach}

-- ---- futures
module _ (K : List ℕ) (x : ℕ) where
  pub future-other : (x / payload ≡ 3 → ⊥) → false ≡ within (future_by K) (value_at x)
  unfolding value_at value_in within future_by kind_of
  future-other h = go (x / payload) h
    where
      null-no : (b : Bool) → false ≡ within (future_by K) (given b (some null))
      null-no true = refl
      null-no false = refl

      go : (k : ℕ) → (k ≡ 3 → ⊥) → false ≡ within (future_by K) (get_or (value_forms (x % payload)) k none)
      go zero h = refl
      go (suc zero) h = null-no (eqb (x % payload) 0)
      go (suc (suc zero)) h = refl
      go (suc (suc (suc zero))) h = absurd (h refl)
      go (suc (suc (suc (suc k)))) h = refl

  module _ (e : x / payload ≡ 3) where
    pub future-nowhere : None ≡ there (kind_of K (ref_in (x % payload))) → false ≡ within (future_by K) (value_at x)
    unfolding value_at value_in within future_by
    future-nowhere d = rw (e, none-there (kind_of K (ref_in (x % payload))) d)

    pub future-ref : (k : ℕ) → Some k ≡ there (kind_of K (ref_in (x % payload))) → (r : Bool) → r ≡ (eqb k 3 || eqb k 4) → r ≡ within (future_by K) (value_at x)
    unfolding value_at value_in within future_by
    future-ref k d r h = rw (e, (some-there k (kind_of K (ref_in (x % payload))) d).0) h

pub ruleset future_laws = (rules, future-other, future-nowhere, future-ref)

module _ (K : List ℕ) (a n : ℕ) where
  pub own-far : 32 ≤ n → false ≡ future_by K (ref a made n)
  unfolding future_by kind_of kind_at
  own-far h = rw (le-ltb n 32 h) (go (ltb a 4))
    where
      go : (b : Bool) → false ≡ (eqb (cond (b && false) (get_or K (slot_count * a + n) 0) 0) 3 || eqb (cond (b && false) (get_or K (slot_count * a + n) 0) 0) 4)
      go true = refl
      go false = refl

  pub own-near : a < 4 → n < 32 → (r : Bool) → r ≡ (eqb (get_or K (slot_count * a + n) 0) 3 || eqb (get_or K (slot_count * a + n) 0) 4) → r ≡ future_by K (ref a made n)
  unfolding future_by kind_of kind_at
  own-near l i r h = rw (lt-ltb a 4 l, lt-ltb n 32 i) h

pub ruleset own_laws = (rules, own-far, own-near)

-- ---- objects and isolates
module _ (K : List ℕ) (a W : ℕ) (w : List ℕ) (at : ℕ) (refs : Bool) (B : List ℕ) (b : ℕ) where
  abbrev answer : Maybe ℕ
  answer = object_end K a W w at b (methods_reach refs K a W B (get_or w at 0 / digits_limit % digit_limit) b)

  pub object-none : None ≡ end_of (methods_hold W (holds refs K a)) (parse_methods (length B) B (get_or w at 0 / digits_limit % digit_limit) b) → None ≡ answer
  unfolding object_end methods_reach
  object-none d = rw (← d)

  pub object-some : (e : ℕ) (o : Bool) (r : Maybe ℕ) → Some e ≡ end_of (methods_hold W (holds refs K a)) (parse_methods (length B) B (get_or w at 0 / digits_limit % digit_limit) b) → o ≡ object_at K a W w at b e → r ≡ then_some o e → r ≡ answer
  unfolding object_end methods_reach
  object-some e o r d i h = rw (← d, ← i) h

pub ruleset object_laws = (rules, object-none, object-some)

-- ---- one slot
module _ (K : List ℕ) (a W : ℕ) (w : List ℕ) (f g : ℕ → ℕ → Maybe ℕ) (n at b : ℕ) where
  pub made_other : (get_or w at 0 / slot_unit ≡ n → ⊥) → None ≡ made_end K a W w f g n at b
  unfolding made_end
  made_other h = rw (ne_eqb (get_or w at 0 / slot_unit) n h)

  pub copied-other : (get_or w at 0 / slot_unit ≡ n → ⊥) → None ≡ copied_end K a W w f g n at b
  unfolding copied_end
  copied-other h = rw (ne_eqb (get_or w at 0 / slot_unit) n h)

  module _ (i : get_or w at 0 / slot_unit ≡ n) where
    made-kind : (k : ℕ) → get_or w at 0 % digit_limit ≡ k → made_end K a W w f g n at b ≡ get_or (slot_forms K a W w f g (get_or w at 0 / digits_limit % digit_limit) at b) k None
    unfolding made_end
    made-kind k e = rw (eq-eqb (get_or w at 0 / slot_unit) n i, e)

    module _ (r : Maybe ℕ) where
      pub made-object : get_or w at 0 % digit_limit ≡ 1 → r ≡ object_end K a W w at b (f (get_or w at 0 / digits_limit % digit_limit) b) → r ≡ made_end K a W w f g n at b
      made-object e h = h ∙ sym (made-kind 1 e)

      pub made-isolate : get_or w at 0 % digit_limit ≡ 2 → r ≡ object_end K a W w at b (g (get_or w at 0 / digits_limit % digit_limit) b) → r ≡ made_end K a W w f g n at b
      made-isolate e h = h ∙ sym (made-kind 2 e)

      module _ (o : Bool) (h : r ≡ then_some o b) where
        pub made-open : get_or w at 0 % digit_limit ≡ 3 → o ≡ open_at w at → r ≡ made_end K a W w f g n at b
        made-open e d = h ∙ ap (λ t. then_some t b) d ∙ sym (made-kind 3 e)

        pub made-settled : get_or w at 0 % digit_limit ≡ 4 → o ≡ settled_at K a w at → r ≡ made_end K a W w f g n at b
        made-settled e d = h ∙ ap (λ t. then_some t b) d ∙ sym (made-kind 4 e)

        pub made-resolver : get_or w at 0 % digit_limit ≡ 5 → o ≡ resolver_at K a w at → r ≡ made_end K a W w f g n at b
        made-resolver e d = h ∙ ap (λ t. then_some t b) d ∙ sym (made-kind 5 e)

      pub copied_all : get_or w at 0 % digit_limit ≡ 2 → r ≡ object_end K a W w at b (g (get_or w at 0 / digits_limit % digit_limit) b) → r ≡ copied_end K a W w f g n at b
      unfolding copied_end
      copied_all e h = rw (eq-eqb (get_or w at 0 / slot_unit) n i, eq-eqb (get_or w at 0 % digit_limit) 2 e) h

    pub made_none : (get_or w at 0 % digit_limit ≡ 1 → ⊥) → (get_or w at 0 % digit_limit ≡ 2 → ⊥) → (get_or w at 0 % digit_limit ≡ 3 → ⊥) → (get_or w at 0 % digit_limit ≡ 4 → ⊥) → (get_or w at 0 % digit_limit ≡ 5 → ⊥) → None ≡ made_end K a W w f g n at b
    made_none h1 h2 h3 h4 h5 = go (get_or w at 0 % digit_limit) refl
      where
        go : (k : ℕ) → get_or w at 0 % digit_limit ≡ k → None ≡ made_end K a W w f g n at b
        go zero e = sym (made-kind 0 e)
        go (suc zero) e = absurd (h1 e)
        go (suc (suc zero)) e = absurd (h2 e)
        go (suc (suc (suc zero))) e = absurd (h3 e)
        go (suc (suc (suc (suc zero)))) e = absurd (h4 e)
        go (suc (suc (suc (suc (suc zero))))) e = absurd (h5 e)
        go (suc (suc (suc (suc (suc (suc k)))))) e = sym (made-kind (suc (suc (suc (suc (suc (suc k)))))) e)

    pub copied-kind : (get_or w at 0 % digit_limit ≡ 2 → ⊥) → None ≡ copied_end K a W w f g n at b
    unfolding copied_end
    copied-kind h = rw (eq-eqb (get_or w at 0 / slot_unit) n i, ne_eqb (get_or w at 0 % digit_limit) 2 h)

  -- by its series
  module _ (s : Series) (r : Maybe ℕ) where
    pub slot-made : s ≡ Made → r ≡ made_end K a W w f g n at b → r ≡ slot_end K a W w f g s n at b
    slot-made e h = rw e h

    pub slot-copied : s ≡ Copied → r ≡ copied_end K a W w f g n at b → r ≡ slot_end K a W w f g s n at b
    slot-copied e h = rw e h

pub ruleset made_laws = (rules, made_other, made-object, made-isolate, made-open, made-settled, made-resolver, made_none)

pub ruleset copied_laws = (rules, copied-other, copied-kind, copied_all)

pub ruleset slot_laws = (rules, slot-made, slot-copied)

-- ---- a series
-- of k slots at `at`, those from the n-th on, with their methods from e on, decide where all end
pub record Left (f : ℕ → ℕ → ℕ → Maybe ℕ) (k at b n e : ℕ) : Type 0 where
  pub is : slots_end f k 0 at b ≡ slots_end f (k - n) n (at + slot_size * n) e

module _ (f : ℕ → ℕ → ℕ → Maybe ℕ) (k at b : ℕ) where
  pub slots-start : Left f k at b 0 b
  slots-start =
      let e : k - 0 ≡ k = omega arith in
      let d : at + slot_size * 0 ≡ at = omega arith in
      record { is = rw (e, d) refl }

  module _ (n e : ℕ) (h : Left f k at b n e) where
    pub slots-done : k ≤ n → Some e ≡ slots_end f k 0 at b
    unfolding slots_end
    slots-done l = let z : k - n ≡ 0 = omega arith in sym (h.is ∙ rw z)

    module _ (l : n < k) where
      step : (j : ℕ) → k - n ≡ suc j → slots_end f (k - n) n (at + slot_size * n) e ≡ option_and_then (slots_end f (k - (n + 1)) (n + 1) (at + slot_size * (n + 1))) (f n (at + slot_size * n) e)
      unfolding slots_end
      step j z =
          let d : k - (n + 1) ≡ j = omega arith in
          let i : at + slot_size * (n + 1) ≡ at + slot_size * n + slot_size = omega arith in
          rw (z, d, i, add-one n) refl

      pub slots-stop : None ≡ f n (at + slot_size * n) e → None ≡ slots_end f k 0 at b
      slots-stop d = sym (h.is ∙ step (k - n - 1) (omega arith) ∙ rw (← d))

      pub slots_next : (r : ℕ) → Some r ≡ f n (at + slot_size * n) e → Left f k at b (n + 1) r
      slots_next r d = record { is = h.is ∙ step (k - n - 1) (omega arith) ∙ rw (← d) }

pub ruleset slots_laws = (rules, slots-start, slots-done, slots-stop, slots_next)
