-- Scopes as levels: the empty one, one name more, three names more and back, and what the functions over levels answer. Assumes nothing.
use Rattle.std.specs.Prelude.{ℕ, ◌+◌, ◌/◌, ◌%◌, ◌≤◌, ◌<◌, ◌≡◌, Bool, ltb, get_or, set, replicate, if◌then◌else◌}
use Rattle.std.proofs.Math.Path.{refl, sym}
use Rattle.std.proofs.Common.{ap, ◌∙◌, rules, get_or-set_other}
use Rattle.std.proofs.Math.Bool.{true, false}
use mathlib.Core.List.{List, [], ◌∷◌, ◌++◌}
use Rattle.std.proofs.Math.Option.{Option, none, some}
use native.Mathlib.Omega.{arith}
use borrow.Author.Tests.{lt-ltb, le-ltb, ne_eqb, ltb-true, ltb-false, eqb-true, eqb-false}
use Rattle.std.proofs.Math.Dec.{eqb}
use Rattle.std.proofs.Math.ListN.{length, length-set, get_or-eq_default}
use Rattle.std.proofs.lemmas.List.{get_or-replicate}
use Rattle.std.proofs.Math.Seq.{get_or-set_same}
use Rattle.atlite.specs.Base.{member, any}
use Rattle.atlite.specs.Term.{Kind, seen}
use Rattle.decoding.specs.ValidTest.{held}
use Rattle.atlite_laws.specs.Facts.{eqb_same}
use Rattle.layout.specs.Numbers.{payload, method_unit, name_limit, no_name, tag_limit, tagged_limit, third_place, pair_limit, number_limit}
use Rattle.layout.specs.Terms.{kind_number}
use Rattle.layout_laws.specs.Parse.{given, place_forms, places_in, params_at, named, method_at}
use Rattle.layout_laws.specs.ParseWords.{along-get_or, Holding, under}
use Rattle.checks.specs.Scope.{Swapped, Kept, kept, put_back, inside-kept}
use Rattle.term_words.specs.Words.{holds}
use Rattle.term_words.specs.Ends.{Scope, Sees, bound, Opens, Refers}

-- ---- nothing is bound
zeros-low : (x : ℕ) (b : Bool) → ltb x name_limit ≡ b → ◌≡◌ {A = ℕ} (get_or (replicate name_limit 0) x 0) 0
zeros-low x true e = get_or-replicate name_limit x 0 0 (ltb-true x name_limit e)
zeros-low x false e = get_or-eq_default (replicate name_limit 0) 0 (ltb-false x name_limit e)

pub scope-none : Scope (replicate name_limit 0) 1 []
unfolding any
scope-none = record {
  size = refl;
  low = λ x. omega (arith, zeros-low x (ltb x name_limit) refl);
  right = λ x h. ap (λ k. eqb k 1) (zeros-low x (ltb x name_limit) refl);
}

-- one level more hides all
pub scope-hidden : (F : List ℕ) (g : ℕ) (xs : List ℕ) → Scope F g xs → Scope F (g + 1) []
unfolding any
scope-hidden F g xs s = record {
  size = s.size;
  low = λ x. omega (arith, s.low x);
  right = λ x h. ne_eqb (get_or F x 0) (g + 1) (λ e. omega (arith, s.low x));
}

-- ---- one name
module _ (F : List ℕ) (g : ℕ) (xs : List ℕ) (s : Scope F g xs) where
  set-low : (x y : ℕ) → x < name_limit → (b : Bool) → eqb y x ≡ b → get_or (set F x g) y 0 ≤ g
  set-low x y l true e =
      let i : x < length F = omega (arith, s.size) in
      rw (eqb-true y x e, get_or-set_same F x g 0 i) (omega arith)
  set-low x y l false e = rw (get_or-set_other F x y g 0 (eqb-false y x e)) (s.low y)

  pub scope-bind : (x : ℕ) → x < no_name → Scope (set F x g) g (x ∷ xs)
  unfolding any
  scope-bind x l = record {
    size = length-set F x g ∙ s.size;
    low = λ y. set-low x y (omega arith) (eqb y x) refl;
    right = λ y h. go y h (eqb y x) refl;
  }
    where
      go : (y : ℕ) → y < no_name → (b : Bool) → eqb y x ≡ b → eqb (get_or (set F x g) y 0) g ≡ (if b then true else member y xs)
      go y h true e =
          let i : x < length F = omega (arith, s.size) in
          rw (eqb-true y x e, get_or-set_same F x g 0 i) (eqb_same g)
      go y h false e = rw (get_or-set_other F x y g 0 (eqb-false y x e)) (s.right y h)

  -- the place that is no word's
  pub scope-past : (x : ℕ) → x ≡ no_name → Scope (set F x g) g xs
  scope-past x e = record {
    size = length-set F x g ∙ s.size;
    low = λ y. set-low x y (omega arith) (eqb y x) refl;
    right = λ y h. rw (get_or-set_other F x y g 0 (λ i. omega arith)) (s.right y h);
  }

module _ (F : List ℕ) (g x : ℕ) where
  pub sees-bound : x < no_name → get_or F x 0 ≡ g → Sees F g x true
  unfolding Sees
  sees-bound l e xs s = sym (rw (lt-ltb x no_name l) (sym (s.right x l) ∙ rw e (eqb_same g)))

  pub sees-unbound : x < no_name → (get_or F x 0 ≡ g → ⊥) → Sees F g x false
  unfolding Sees
  sees-unbound l e xs s = sym (rw (lt-ltb x no_name l) (sym (s.right x l) ∙ ne_eqb (get_or F x 0) g e))

  pub sees-none : no_name ≤ x → Sees F g x false
  unfolding Sees
  sees-none l xs s = rw (le-ltb x no_name l)

-- ---- three places
module _ (F : List ℕ) (g : ℕ) (xs : List ℕ) (s : Scope F g xs) (n : ℕ) where
  abbrev x : ℕ
  x = n % name_limit

  abbrev y : ℕ
  y = n / name_limit % name_limit

  abbrev z : ℕ
  z = n / pair_limit % name_limit

  one-bound : x < no_name → y ≡ no_name → z ≡ no_name → Scope (bound F g n) g (x ∷ xs)
  unfolding bound
  one-bound i j k = scope-bind _ g xs (scope-past _ g xs (scope-past F g xs s z k) y j) x i

  pub two-bound : x < no_name → y < no_name → z ≡ no_name → Scope (bound F g n) g (x ∷ y ∷ xs)
  unfolding bound
  two-bound i j k = scope-bind _ g _ (scope-bind _ g xs (scope-past F g xs s z k) y j) x i

  -- where the rest stands under a test
  if-lt : (m : ℕ) (o : Option (List ℕ)) → (m < no_name → Holding (λ ys. Scope (bound F g n) g (ys ++ xs)) o) → Holding (λ ys. Scope (bound F g n) g (ys ++ xs)) (given (ltb m no_name) o)
  if-lt m o h = under _ (ltb m no_name) o (λ t. h (ltb-true m no_name t))

  if-eq : (m : ℕ) (o : Option (List ℕ)) → (m ≡ no_name → Holding (λ ys. Scope (bound F g n) g (ys ++ xs)) o) → Holding (λ ys. Scope (bound F g n) g (ys ++ xs)) (given (eqb m no_name) o)
  if-eq m o h = under _ (eqb m no_name) o (λ t. h (eqb-true m no_name t))

  places-bound : (k : ℕ) → Holding (λ ys. Scope (bound F g n) g (ys ++ xs)) (places_in k x y z)
  unfolding places_in bound
  places-bound k =
      along-get_or (λ k. Holding (λ ys. Scope (bound F g n) g (ys ++ xs))) none (λ k. tt) (place_forms x y z) (
        if-eq x _ (λ i. if-eq y _ (λ j. if-eq z (some []) (λ k. scope-past _ g xs (scope-past _ g xs (scope-past F g xs s z k) y j) x i))),
        (
          if-lt x _ (λ i. if-eq y _ (λ j. if-eq z (some (x ∷ [])) (λ k. one-bound i j k))),
          (
            if-lt x _ (λ i. if-lt y _ (λ j. if-eq z (some (x ∷ y ∷ [])) (λ k. two-bound i j k))),
            (if-lt x _ (λ i. if-lt y _ (λ j. if-lt z (some (x ∷ y ∷ z ∷ [])) (λ k. scope-bind _ g _ (scope-bind _ g _ (scope-bind F g xs s z k) y j) x i))), tt),
          ),
        ),
      )
      k

-- the name and the parameters of a method's header
module _ (F : List ℕ) (g : ℕ) (xs : List ℕ) (s : Scope F g xs) (h : ℕ) where
  abbrev MethodBound : ℕ × List ℕ → Type 0
  MethodBound q = (q.0 ≡ h % name_limit) × (q.0 < no_name) × Scope (bound F g (h / tagged_limit)) g (q.1 ++ xs)

  named-bound : (o : Option (List ℕ)) → h % name_limit < no_name → Holding (λ ys. Scope (bound F g (h / tagged_limit)) g (ys ++ xs)) o → Holding MethodBound (named (h % name_limit) o)
  named-bound none l e = tt
  named-bound (some ys) l e = (refl, l, e)

  pub method-bound : Holding MethodBound (method_at h)
  unfolding method_at params_at
  method-bound =
      let a : h / tagged_limit / name_limit ≡ h / number_limit = omega arith in
      let b : h / tagged_limit / pair_limit ≡ h / third_place = omega arith in
      under _ (eqb (h / method_unit) 3) _ (λ e. under _ (ltb (h % name_limit) no_name) (named (h % name_limit) (params_at h)) (λ l.
      named-bound (params_at h) (ltb-true (h % name_limit) no_name l) (rw (a, b) at (places-bound F g xs s (h / tagged_limit) (h / name_limit % tag_limit)))))

-- ---- and back
pub swap-kept : (F : List ℕ) (x v o u : ℕ) (G H I J : List ℕ) → Swapped F x v G o → Kept G H → Kept H I → Swapped I x o J u → Kept F J
unfolding Kept
swap-kept F x v o u G H I J p e f q = q.new ∙ rw (f ∙ e, p.new, p.old) (put_back F x v)

pub swap-back : (F G H I J : List ℕ) (x v o u : ℕ) → Kept F G → Swapped G x v H o → Kept H I → Swapped I x o J u → Kept F J
unfolding Kept
swap-back F G H I J x v o u d p e q = q.new ∙ rw (e, p.new, p.old) (put_back G x v) ∙ d

pub kept-after : (F G H : List ℕ) → Kept F G → Kept G H → Kept F H
unfolding Kept
kept-after F G H e f = f ∙ e

-- ---- the parts of a literal
module _ (g h : ℕ) where
  pub opens-object : h / payload ≡ 15 → Opens g h g
  unfolding kind_number seen
  opens-object k = record { near = omega arith; inner = go }
    where
      go : (t : Kind) → h / payload ≡ kind_number t → (F xs : List ℕ) → Scope F g xs → Scope F g (seen t xs)
      go Kind.object i F xs s = s
      go Kind.isolate i F xs s = absurd (omega arith)
      go Kind.actor i F xs s = absurd (omega arith)

  pub opens-alone : (h / payload ≡ 15 → ⊥) → Opens g h (g + 1)
  unfolding kind_number seen
  opens-alone k = record { near = omega arith; inner = go }
    where
      go : (t : Kind) → h / payload ≡ kind_number t → (F xs : List ℕ) → Scope F g xs → Scope F (g + 1) (seen t xs)
      go Kind.object i F xs s = absurd (k i)
      go Kind.isolate i F xs s = scope-hidden F g xs s
      go Kind.actor i F xs s = scope-hidden F g xs s

module _ (refs : Bool) (h : ℕ) where
  pub refers-object : h / payload ≤ 15 → Refers refs h refs
  unfolding Refers kind_number held
  refers-object k Kind.object i K a = refl
  refers-object k Kind.isolate i K a = absurd (omega arith)
  refers-object k Kind.actor i K a = absurd (omega arith)

  pub refers-alone : 15 < h / payload → Refers refs h false
  unfolding Refers kind_number held holds
  refers-alone k Kind.object i K a = absurd (omega arith)
  refers-alone k Kind.isolate i K a = refl
  refers-alone k Kind.actor i K a = refl

pub ruleset laws = (rules, sees-bound, sees-unbound, sees-none, opens-object, opens-alone, refers-object, refers-alone)

pub ruleset kept_laws = (rules, kept, kept-after, inside-kept, swap-kept, swap-back)
