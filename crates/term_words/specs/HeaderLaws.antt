-- The laws of the functions that test headers: one for each way to return. Assumes nothing.
use Rattle.std.specs.Prelude.{ℕ, ◌+◌, ◌/◌, ◌%◌, ◌≤◌, ◌<◌, ◌≡◌, Bool, ◌&&◌, cond, eqb, leb, if◌then◌else◌}
use Rattle.std.proofs.Math.Path.{refl, sym, ap}
use Rattle.std.proofs.Common.{◌∙◌, rules}
use Rattle.std.proofs.Math.Bool.{true, false, not, and-true, and-false}
use mathlib.Core.List.{List, [], ◌∷◌}
use Rattle.std.proofs.Math.Option.{Option, none, some}
use native.Mathlib.Omega.{arith}
use borrow.Author.Tests.{lt-ltb, le-ltb, le-leb, lt-leb, eq-eqb, ne_eqb, ltb-false}
use Rattle.std.proofs.Math.Dec.{ltb}
use Rattle.atlite.specs.Base.{all, any, distinct_by}
use Rattle.atlite.specs.Valid.{is_name, is_variable, few_distinct, parameters}
use Rattle.atlite_laws.specs.Facts.{and₂}
use Rattle.layout.specs.Numbers.{payload, field_kind, method_unit, name_limit, no_name, tag_limit, tagged_limit, second_place, third_place, digit_limit}
use Rattle.layout_laws.specs.Parse.{field_at, places_in, params_at, named, method_at}
use Rattle.layout_laws.specs.ParseWords.{Holding}
use Rattle.layout_laws.specs.LastThree.{fresh}
use Rattle.term_words.specs.Words.{within}
use Rattle.term_words.specs.Ends.{is_new, Met, field_head, FieldHeader, two, third, empty, sign, method_head, MethodHeader}
use Rattle.term_words.specs.NameLaws.{name_below, name-above, variable-below, signed_word, met-fresh}

-- ---- places
module _ (c x y : ℕ) (o : Bool) (e : o ≡ is_variable c x) where
  pub two-first : o ≡ false → false ≡ two c x y
  unfolding two
  two-first t = rw (sym e ∙ t)

  module _ (t : o ≡ true) (q : Bool) (d : q ≡ is_variable c y) where
    pub two-second : q ≡ false → false ≡ two c x y
    unfolding two
    two-second u = rw (sym e ∙ t, sym d ∙ u)

    pub two-same : q ≡ true → x ≡ y → false ≡ two c x y
    unfolding two
    two-same u i = rw (sym e ∙ t, sym d ∙ u, eq-eqb x y i)

    pub two-yes : q ≡ true → (x ≡ y → ⊥) → true ≡ two c x y
    unfolding two
    two-yes u i = rw (sym e ∙ t, sym d ∙ u, ne_eqb x y i)

module _ (c x y z : ℕ) (o : Bool) (e : o ≡ is_variable c z) where
  pub third-not : o ≡ false → false ≡ third c x y z
  unfolding third
  third-not t = rw (sym e ∙ t)

  module _ (t : o ≡ true) where
    pub third-first : x ≡ z → false ≡ third c x y z
    unfolding third
    third-first i = rw (sym e ∙ t, eq-eqb x z i)

    pub third-second : (x ≡ z → ⊥) → y ≡ z → false ≡ third c x y z
    unfolding third
    third-second i j = rw (sym e ∙ t, ne_eqb x z i, eq-eqb y z j)

    pub third-yes : (x ≡ z → ⊥) → (y ≡ z → ⊥) → true ≡ third c x y z
    unfolding third
    third-yes i j = rw (sym e ∙ t, ne_eqb x z i, ne_eqb y z j)

module _ (y z : ℕ) where
  pub empty-yes : y ≡ no_name → z ≡ no_name → true ≡ empty y z
  unfolding empty
  empty-yes e i = rw (e, i)

  pub empty-second : y ≡ no_name → (z ≡ no_name → ⊥) → false ≡ empty y z
  unfolding empty
  empty-second e i = rw (e, ne_eqb z no_name i)

  pub empty-first : (y ≡ no_name → ⊥) → false ≡ empty y z
  unfolding empty
  empty-first e = rw (ne_eqb y no_name e)

pub small-counts : (p : ℕ) → p % digit_limit ≤ 4 → leb (p / digit_limit) 4 ≡ leb (p % digit_limit) 4 && leb (p / digit_limit) 4
small-counts p l = rw (le-leb (p % digit_limit) 4 l)

pub many-fields : (p : ℕ) → 4 < p % digit_limit → false ≡ leb (p % digit_limit) 4 && leb (p / digit_limit) 4
many-fields p l = rw (lt-leb (p % digit_limit) 4 l)

pub ruleset place_laws = (rules, two-first, two-second, two-same, two-yes, third-not, third-first, third-second, third-yes, empty-yes, empty-second, empty-first, small-counts, many-fields)

-- ---- parameters
module _ (c : ℕ) where
  variable-past : c ≤ 64 → (x : ℕ) → no_name ≤ x → is_variable c x ≡ false
  unfolding is_variable
  variable-past l x h = rw (lt-ltb 0 x (omega arith), le-ltb x (8 + c) (omega arith))

  no-parameter : parameters c [] ≡ true
  unfolding few_distinct distinct_by all
  no-parameter = refl

  one-parameter : (x : ℕ) → parameters c (x ∷ []) ≡ is_variable c x
  unfolding few_distinct distinct_by any all
  one-parameter x = and-true (is_variable c x)

  two-parameters : (x y : ℕ) → parameters c (x ∷ y ∷ []) ≡ two c x y
  unfolding few_distinct distinct_by any all two
  two-parameters x y = go (is_variable c x) (is_variable c y) (eqb x y)
    where
      go : (a b e : Bool) → (not (if e then true else false) && true) && (a && (b && true)) ≡ a && b && not e
      go true true true = refl
      go true true false = refl
      go true false true = refl
      go true false false = refl
      go false b true = refl
      go false b false = refl

  three-parameters : (x y z : ℕ) → parameters c (x ∷ y ∷ z ∷ []) ≡ two c x y && third c x y z
  unfolding few_distinct distinct_by any all two third
  three-parameters x y z = go (is_variable c x) (is_variable c y) (is_variable c z) (eqb x y) (eqb x z) (eqb y z)
    where
      go : (a b d e f g : Bool) → (not (if e then true else (if f then true else false)) && (not (if g then true else false) && true)) && (a && (b && (d && true)))
          ≡ (a && b && not e) && (d && not f && not g)
      go false b d true f g = refl
      go false b d false true g = refl
      go false b d false false true = refl
      go false b d false false false = refl
      go true false d true f g = refl
      go true false d false true g = refl
      go true false d false false true = refl
      go true false d false false false = refl
      go true true d true f g = refl
      go true true true false true g = refl
      go true true true false false true = refl
      go true true true false false false = refl
      go true true false false true g = refl
      go true true false false false true = refl
      go true true false false false false = refl

-- tests before what is there
module _ {A : Type 0} (t : A → Bool) where
  pub within-not : (b : Bool) (o : Option A) → within t o ≡ false → within t (cond b o none) ≡ false
  unfolding within
  within-not true o h = h
  within-not false o h = refl

  within_both : (b d : Bool) (l : A) → t l ≡ true → b && d ≡ within t (cond b (cond d (some l) none) none)
  unfolding within
  within_both true true l h = sym h
  within_both true false l h = refl
  within_both false d l h = refl

module _ (c : ℕ) (l : c ≤ 64) (x y z : ℕ) where
  places-none : x ≡ no_name → empty y z ≡ within (parameters c) (places_in 0 x y z)
  unfolding empty places_in
  places-none e = rw e (within_both (parameters c) (eqb y no_name) (eqb z no_name) [] (no-parameter c))

  places-full : (x ≡ no_name → ⊥) → false ≡ within (parameters c) (places_in 0 x y z)
  unfolding places_in within
  places-full e = rw (ne_eqb x no_name e)

  places-one : is_variable c x ≡ true → empty y z ≡ within (parameters c) (places_in 1 x y z)
  unfolding empty places_in
  places-one e = rw (lt-ltb x no_name (variable-below c x l e)) (within_both (parameters c) (eqb y no_name) (eqb z no_name) (x ∷ []) (one-parameter c x ∙ e))

  places-two : two c x y ≡ true → eqb z no_name ≡ within (parameters c) (places_in 2 x y z)
  unfolding places_in two
  places-two e =
      let v = and₂ (is_variable c x && is_variable c y) (not (eqb x y)) e in
      let u = and₂ (is_variable c x) (is_variable c y) v.0 in
      rw (lt-ltb x no_name (variable-below c x l u.0), lt-ltb y no_name (variable-below c y l u.1))
      (within_both (parameters c) true (eqb z no_name) (x ∷ y ∷ []) (two-parameters c x y ∙ e))

  places-three : two c x y ≡ true → third c x y z ≡ within (parameters c) (places_in 3 x y z)
  unfolding places_in two third within
  places-three e =
      let v = and₂ (is_variable c x && is_variable c y) (not (eqb x y)) e in
      let u = and₂ (is_variable c x) (is_variable c y) v.0 in
      rw (lt-ltb x no_name (variable-below c x l u.0), lt-ltb y no_name (variable-below c y l u.1)) (go (ltb z no_name) refl)
    where
      go : (b : Bool) → ltb z no_name ≡ b → third c x y z ≡ within (parameters c) (cond b (some (x ∷ y ∷ z ∷ [])) none)
      go true i = sym (three-parameters c x y z ∙ rw e)
      go false i = rw (variable-past c l z (ltb-false z no_name i))

  not-one : is_variable c x ≡ false → false ≡ within (parameters c) (places_in 1 x y z)
  unfolding places_in within
  not-one e = sym (within-not _ (ltb x no_name) _ (within-not _ (eqb y no_name) _ (within-not _ (eqb z no_name) (some (x ∷ [])) (one-parameter c x ∙ e))))

  not-two : two c x y ≡ false → false ≡ within (parameters c) (places_in 2 x y z)
  unfolding places_in within
  not-two e = sym (within-not _ (ltb x no_name) _ (within-not _ (ltb y no_name) _ (within-not _ (eqb z no_name) (some (x ∷ y ∷ [])) (two-parameters c x y ∙ e))))

  not_three : two c x y ≡ false → false ≡ within (parameters c) (places_in 3 x y z)
  unfolding places_in within
  not_three e = sym (within-not _ (ltb x no_name) _ (within-not _ (ltb y no_name) _ (within-not _ (ltb z no_name) (some (x ∷ y ∷ z ∷ [])) (three-parameters c x y z ∙ rw e))))

module _ (c h : ℕ) (r : Bool) where
  -- the number of parameters that was found
  counted : (n : ℕ) → h / name_limit % tag_limit ≡ n → r ≡ within (parameters c) (places_in n (h / tagged_limit % name_limit) (h / second_place % name_limit) (h / third_place % name_limit)) → r ≡ within (parameters c) (params_at h)
  unfolding params_at
  counted n k i = rw k i

  last-count : (h / name_limit % tag_limit ≡ 0 → ⊥) → (h / name_limit % tag_limit ≡ 1 → ⊥) → (h / name_limit % tag_limit ≡ 2 → ⊥) → h / name_limit % tag_limit ≡ 3
  last-count i j k = omega arith

  module _ (l : c ≤ 64) where
    pub params_none : h / name_limit % tag_limit ≡ 0 → h / tagged_limit % name_limit ≡ no_name → r ≡ empty (h / second_place % name_limit) (h / third_place % name_limit) → r ≡ within (parameters c) (params_at h)
    params_none k e i = counted 0 k (i ∙ places-none c l _ _ _ e)

    pub params-one : (o : Bool) → h / name_limit % tag_limit ≡ 1 → o ≡ is_variable c (h / tagged_limit % name_limit) → o ≡ true → r ≡ empty (h / second_place % name_limit) (h / third_place % name_limit) → r ≡ within (parameters c) (params_at h)
    params-one o k e t i = counted 1 k (i ∙ places-one c l _ _ _ (sym e ∙ t))

    pub params-two : (o : Bool) → h / name_limit % tag_limit ≡ 2 → o ≡ two c (h / tagged_limit % name_limit) (h / second_place % name_limit) → o ≡ true → r ≡ eqb (h / third_place % name_limit) no_name → r ≡ within (parameters c) (params_at h)
    params-two o k e t i = counted 2 k (i ∙ places-two c l _ _ _ (sym e ∙ t))

    pub params-three : (o : Bool) → (h / name_limit % tag_limit ≡ 0 → ⊥) → (h / name_limit % tag_limit ≡ 1 → ⊥) → (h / name_limit % tag_limit ≡ 2 → ⊥) → o ≡ two c (h / tagged_limit % name_limit) (h / second_place % name_limit) → o ≡ true
        → r ≡ third c (h / tagged_limit % name_limit) (h / second_place % name_limit) (h / third_place % name_limit) → r ≡ within (parameters c) (params_at h)
    params-three o a b d e t i = counted 3 (last-count a b d) (i ∙ places-three c l _ _ _ (sym e ∙ t))

module _ (c h : ℕ) (l : c ≤ 64) where
  pub params-full : h / name_limit % tag_limit ≡ 0 → (h / tagged_limit % name_limit ≡ no_name → ⊥) → false ≡ within (parameters c) (params_at h)
  params-full k e = counted c h false 0 k (places-full c l _ _ _ e)

  pub params-not-one : (o : Bool) → h / name_limit % tag_limit ≡ 1 → o ≡ is_variable c (h / tagged_limit % name_limit) → o ≡ false → false ≡ within (parameters c) (params_at h)
  params-not-one o k e t = counted c h false 1 k (not-one c l _ _ _ (sym e ∙ t))

  pub params-not-two : (o : Bool) → h / name_limit % tag_limit ≡ 2 → o ≡ two c (h / tagged_limit % name_limit) (h / second_place % name_limit) → o ≡ false → false ≡ within (parameters c) (params_at h)
  params-not-two o k e t = counted c h false 2 k (not-two c l _ _ _ (sym e ∙ t))

  pub params-not-three : (o : Bool) → (h / name_limit % tag_limit ≡ 0 → ⊥) → (h / name_limit % tag_limit ≡ 1 → ⊥) → (h / name_limit % tag_limit ≡ 2 → ⊥) → o ≡ two c (h / tagged_limit % name_limit) (h / second_place % name_limit) → o ≡ false → false ≡ within (parameters c) (params_at h)
  params-not-three o a b d e t = counted c h false 3 (last-count c h false a b d) (not_three c l _ _ _ (sym e ∙ t))

pub ruleset param_laws = (rules, params_none, params-one, params-two, params-three, params-full, params-not-one, params-not-two, params-not-three)

-- ---- fields
module _ (c h N : ℕ) where
  pub field-other : (h / payload ≡ field_kind → ⊥) → FieldHeader c N h false
  unfolding FieldHeader field_at within
  field-other k n ns z m = rw (ne_eqb (h / payload) field_kind k)

  module _ (o : Bool) (k : h / payload ≡ field_kind) (e : o ≡ is_name c (h % payload)) where
    pub field-unnamed : o ≡ false → FieldHeader c N h false
    unfolding FieldHeader field_at field_head is_new within
    field-unnamed t n ns z m = rw k (sym (within-not (field_head c ns) (ltb (h % payload) no_name) (some (h % payload)) (rw (sym e ∙ t))))

    pub field-named : (r : Bool) → c ≤ 64 → o ≡ true → r ≡ fresh tagged_limit N (h % tagged_limit) → FieldHeader c N h r
    unfolding FieldHeader field_at field_head is_new within
    field-named r l t i n ns z m =
        let f = h % payload in
        let q : is_name c f ≡ true = sym e ∙ t in
        let b = name_below c f l q in
        let x : h % tagged_limit ≡ f = omega arith in
        rw (k, lt-ltb f no_name b, q) (i ∙ ap (fresh tagged_limit N) x ∙ met-fresh N n f ns (omega (arith, name-above c f q)) z m)

pub ruleset field_laws = (rules, field-other, field-unnamed, field-named)

-- ---- methods
module _ (c h N : ℕ) where
  -- the header is tested by its lowest digits, which are its signature
  abbrev tested : List ℕ → ℕ × List ℕ → Bool
  tested ns q = is_new c ns q.0 (h % tagged_limit) && parameters c q.1

  head-signed : (ns : List ℕ) → within (method_head c ns) (method_at h) ≡ within (tested ns) (method_at h)
  unfolding within method_head
  head-signed ns = go (method_at h) (signed_word h)
    where
      go : (o : Option (ℕ × List ℕ)) → Holding (λ q. sign q.0 q.1 ≡ h % tagged_limit) o → within (method_head c ns) o ≡ within (tested ns) o
      go none i = refl
      go (some q) i = ap (λ x. is_new c ns q.0 x && parameters c q.1) i

  named-within : (ns : List ℕ) (m : ℕ) (o : Option (List ℕ)) → within (tested ns) (named m o) ≡ is_new c ns m (h % tagged_limit) && within (parameters c) o
  unfolding within
  named-within ns m none = sym (and-false (is_new c ns m (h % tagged_limit)))
  named-within ns m (some xs) = refl

  pub method-other : (h / method_unit ≡ 3 → ⊥) → MethodHeader c N h false
  unfolding MethodHeader method_at within
  method-other k n ns z m = rw (ne_eqb (h / method_unit) 3 k)

  module _ (o : Bool) (k : h / method_unit ≡ 3) (e : o ≡ is_name c (h % name_limit)) where
    -- whatever the parameters are, the signature is not new
    refuses : (ns : List ℕ) → is_new c ns (h % name_limit) (h % tagged_limit) ≡ false → false ≡ within (method_head c ns) (method_at h)
    unfolding method_at
    refuses ns i =
        sym (head-signed ns ∙ rw k (within-not (tested ns) (ltb (h % name_limit) no_name) (named (h % name_limit) (params_at h)) (named-within ns (h % name_limit) (params_at h) ∙ rw i)))

    pub method-unnamed : o ≡ false → MethodHeader c N h false
    unfolding MethodHeader is_new
    method-unnamed t n ns z m = refuses ns (rw (sym e ∙ t))

    module _ (l : c ≤ 64) (t : o ≡ true) (f : Bool) (j : f ≡ fresh tagged_limit N (h % tagged_limit)) where
      new : (n : ℕ) (ns : List ℕ) → 0 < n → Met N n ns → is_new c ns (h % name_limit) (h % tagged_limit) ≡ f
      unfolding is_new
      new n ns z m =
          let q : is_name c (h % name_limit) ≡ true = sym e ∙ t in
          let a = name-above c (h % name_limit) q in
          let b : 0 < h % tagged_limit = omega arith in
          rw q (sym (met-fresh N n (h % tagged_limit) ns b z m) ∙ sym j)

      pub method-taken : f ≡ false → MethodHeader c N h false
      unfolding MethodHeader
      method-taken u n ns z m = refuses ns (new n ns z m ∙ u)

      pub method-named : (r : Bool) → f ≡ true → r ≡ within (parameters c) (params_at h) → MethodHeader c N h r
      unfolding MethodHeader method_at
      method-named r u i n ns z m =
          let b = name_below c (h % name_limit) l (sym e ∙ t) in
          i ∙ sym (head-signed ns ∙ rw (k, lt-ltb (h % name_limit) no_name b) (named-within ns (h % name_limit) (params_at h) ∙ rw (new n ns z m ∙ u)))

pub ruleset method_laws = (rules, method-other, method-unnamed, method-taken, method-named)
