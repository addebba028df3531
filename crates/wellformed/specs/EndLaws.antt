-- Ends of parts that stand one after another: where one of them does not end, neither do all. Assumes nothing.
use Prim.Native.Nat.{ℕ, suc, ◌≤◌}
use Rattle.std.specs.Prelude.{◌≡◌, Bool, ◌&&◌, Option as Maybe, Some, None, List, length, get_or}
use Rattle.std.specs.Option.{option_and_then}
use Rattle.std.proofs.Math.Path.{refl, ap}
use Rattle.std.proofs.Common.{sym, ◌∙◌, true≢false}
use Rattle.std.proofs.lemmas.Option.{same_Some}
use Rattle.std.proofs.Math.Bool.{true, false, cond}
use Rattle.std.proofs.Math.Option.{Option, some}
use Rattle.std.proofs.Math.ListN.{get_or-eq_default}
use Rattle.decoding.specs.Kinds.{Kinds}
use Rattle.layout_laws.specs.Parse.{Got, none, got, on_got, pair, behind, head_of, head_in, head_at, field_at, method_at, inits_by, methods_by, formed, parse_inits, parse_methods}
use Rattle.layout_laws.specs.ParseLaws.{parse}
use Rattle.layout_laws.proofs.ParseLaws.{parse-step}
use Rattle.term_words.specs.Words.{within}
use Rattle.term_words.specs.Ends.{end_of}

-- ---- what an end says
module _ {A : Type 0} (t : A → Bool) where
  pub ends-got : (g : Got A) (a : A) (i : ℕ) → g ≡ got a i → t a ≡ true → end_of t g ≡ Some i
  unfolding end_of
  ends-got g a i e h = rw (e, h)

  pub ends_at : (g : Got A) (r : ℕ) → Some r ≡ end_of t g → (a : A) × (g ≡ got a r) × (t a ≡ true)
  unfolding end_of
  ends_at none r e = cc
  ends_at (got a i) r e = go (t a) refl e
    where
      go : (b : Bool) → t a ≡ b → Some r ≡ cond b (Some i) None → (a' : A) × (got a i ≡ got a' r) × (t a' ≡ true)
      go true h e = (a, ap (got a) (same_Some i r (sym e)), h)
      go false h e = cc

-- ---- two parts
-- the same ends under two tests, and none
module _ {A B : Type 0} (f : A → B) (t : B → Bool) where
  pub ends_on : (s : A → Bool) (g : Got A) → ((a : A) (i : ℕ) → g ≡ got a i → t (f a) ≡ s a) → end_of s g ≡ end_of t (on_got f g)
  unfolding end_of
  ends_on s none h = refl
  ends_on s (got a i) h = rw (h a i refl)

  pub ends-on-none : (g : Got A) → ((a : A) (i : ℕ) → g ≡ got a i → t (f a) ≡ false) → None ≡ end_of t (on_got f g)
  unfolding end_of
  ends-on-none none h = refl
  ends-on-none (got a i) h = rw (h a i refl)

module _ {A : Type 0} (t : A → Bool) where
  pub ends_same : (s : A → Bool) (g : Got A) → ((a : A) (i : ℕ) → g ≡ got a i → t a ≡ s a) → end_of s g ≡ end_of t g
  unfolding end_of
  ends_same s none h = refl
  ends_same s (got a i) h = rw (h a i refl)

  pub ends-none : (g : Got A) → ((a : A) (i : ℕ) → g ≡ got a i → t a ≡ false) → None ≡ end_of t g
  unfolding end_of
  ends-none none h = refl
  ends-none (got a i) h = rw (h a i refl)

module _ {A B C : Type 0} (f : A → B → C) (u : C → Bool) where
  pub ends-pair : (s : A → Bool) (t : B → Bool) (g : Got A) (q : ℕ → Got B)
      → ((a : A) (i : ℕ) (b : B) (j : ℕ) → g ≡ got a i → q i ≡ got b j → u (f a b) ≡ s a && t b)
      → option_and_then (λ i. end_of t (q i)) (end_of s g) ≡ end_of u (pair f g q)
  unfolding end_of
  ends-pair s t none q h = refl
  ends-pair s t (got a i) q h = go (s a) refl
    where
      go : (b : Bool) → s a ≡ b → option_and_then (λ i. end_of t (q i)) (cond b (Some i) None) ≡ end_of u (on_got (f a) (q i))
      go true e = ends_on (f a) u t (q i) (λ b j g. h a i b j refl g ∙ rw e)
      go false e = ends-on-none (f a) u (q i) (λ b j g. h a i b j refl g ∙ rw e)

  pub ends-pair-none : (g : Got A) (q : ℕ → Got B) → ((a : A) (i : ℕ) (b : B) (j : ℕ) → g ≡ got a i → q i ≡ got b j → u (f a b) ≡ false) → None ≡ end_of u (pair f g q)
  unfolding end_of
  ends-pair-none none q h = refl
  ends-pair-none (got a i) q h = ends-on-none (f a) u (q i) (λ b j g. h a i b j refl g)

-- ---- a header, the part that it leads, and the rest
module _ {H A B : Type 0} (f : H → A → B → B) (t : H → Bool) (u : B → Bool) (x : Got A) (q : ℕ → Got B) where
  pub headed-none : (o : Option H) → within t o ≡ false → ((h : H) (a : A) (b : B) → t h ≡ false → u (f h a b) ≡ false) → None ≡ end_of u (behind o (λ h. pair (f h) x q))
  unfolding within end_of
  headed-none Option.none e k = refl
  headed-none (some h) e k = ends-pair-none (f h) u x q (λ a i b j g y. k h a b e)

  pub headed : (o : Option H) (r : Maybe ℕ) → within t o ≡ true → ((h : H) → o ≡ some h → t h ≡ true → r ≡ end_of u (pair (f h) x q)) → r ≡ end_of u (behind o (λ h. pair (f h) x q))
  unfolding within
  headed Option.none r e k = absurd (true≢false (sym e))
  headed (some h) r e k = k h refl e

-- ---- past the words
module _ (w : List ℕ) (at : ℕ) (l : length w ≤ at) where
  past : get_or w at 0 ≡ 0
  past = get_or-eq_default w 0 l

  pub parse-past : parse w at ≡ none
  unfolding head_at Kinds head_in head_of formed
  parse-past = parse-step w at ∙ rw past

  pub fields-past : (n : ℕ) → parse_inits (length w) w (suc n) at ≡ none
  unfolding inits_by field_at
  fields-past n = rw past

  pub methods-past : (n : ℕ) → parse_methods (length w) w (suc n) at ≡ none
  unfolding methods_by method_at
  methods-past n = rw past
