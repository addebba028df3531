-- The laws of the loop over the terms that are left, and of the functions that find where lists of fields and methods end: one for each
-- turn and each way to return. Assumes nothing.
use Prim.Native.Nat.{ℕ, zero, suc, ◌+◌, ◌-◌, ◌/◌, ◌%◌, ◌≤◌, ◌<◌}
use Rattle.std.specs.Prelude.{◌≡◌, refl, Bool, false, Option as Maybe, Some, None, length}
use Rattle.std.specs.Option.{option_and_then}
use Rattle.std.proofs.Common.{sym, ◌∙◌, zero-add, rules}
use Rattle.std.proofs.Math.Path.{ap}
use Rattle.std.proofs.Math.Bool.{true}
use mathlib.Core.List.{List, ◌∷◌, ◌++◌}
use Rattle.std.proofs.Math.Option.{some}
use Rattle.std.proofs.Math.Numerals.{sub-one}
use native.Mathlib.Omega.{arith}
use Rattle.std.proofs.Math.ListN.{get_or}
use Rattle.atlite.specs.Term.{Value, Term, cons, Inits, Methods, method}
use Rattle.decoding.specs.ValidTest.{well_formed, well_formed_all}
use Rattle.layout.specs.Numbers.{payload, tagged_limit}
use Rattle.layout_laws.specs.Parse.{head_at, field_at, method_at, terms_by, inits_by, methods_by, parse_terms, parse_inits, parse_methods}
use Rattle.layout_laws.specs.ParseWords.{holding, field-word}
use Rattle.layout_laws.specs.ParseLaws.{parse}
use Rattle.layout_laws.proofs.ParseLaws.{parse-step}
use Rattle.layout_laws.specs.LastThree.{noted}
use Rattle.checks.specs.Scope.{Kept}
use Rattle.term_words.specs.Ends.{end_of, Scope, bound, Met, field_head, sign, FieldHeader, method_head, MethodHeader, fields_well, methods_well, terms_end, Leaf, Opened, TermEnds, Left, FieldsEnd, MethodsEnd, FormEnds}
use Rattle.term_words.specs.ScopeLaws.{method-bound}
use Rattle.term_words.specs.NameLaws.{signed_word, met-noted}
use Rattle.wellformed.specs.EndLaws.{ends-pair, headed, headed-none, parse-past, fields-past, methods-past}
use Rattle.wellformed.specs.ShapeLaws.{one-term}

-- ---- terms one behind another
-- Terms are looked for where the first of them ends, and those behind some where these end.
module _ (c : ℕ) (p : Value → Bool) (xs w : List ℕ) where
  first-end : (n i : ℕ) → 0 < n → option_and_then (λ i. terms_end c p xs w (n - 1) i) (end_of (well_formed c p xs) (parse w i)) ≡ terms_end c p xs w n i
  unfolding terms_by well_formed
  first-end zero i z = absurd (omega arith)
  first-end (suc n) i z =
      rw sub-one
      (ends-pair cons (well_formed_all c p xs) (well_formed c p xs) (well_formed_all c p xs) (parse w i) (λ i. parse_terms (length w) w n i) (λ e i es m g q. refl))

  some_end : (m n i : ℕ) → option_and_then (λ i. terms_end c p xs w n i) (terms_end c p xs w m i) ≡ terms_end c p xs w (m + n) i
  unfolding terms_by end_of well_formed
  some_end zero n i = rw (zero-add n)
  some_end (suc m) n i =
      let a : suc m - 1 ≡ m = omega arith in
      let b : suc m + n - 1 ≡ m + n = omega arith in
      ap (option_and_then (λ i. terms_end c p xs w n i)) (sym (rw a at (first-end (suc m) i (omega arith))))
      ∙ go (λ j. some_end m n j) (end_of (well_formed c p xs) (parse w i))
      ∙ rw b at (first-end (suc m + n) i (omega arith))
    where
      go : ((j : ℕ) → option_and_then (λ i. terms_end c p xs w n i) (terms_end c p xs w m j) ≡ terms_end c p xs w (m + n) j) → (o : Maybe ℕ)
          → option_and_then (λ i. terms_end c p xs w n i) (option_and_then (λ i. terms_end c p xs w m i) o) ≡ option_and_then (λ i. terms_end c p xs w (m + n) i) o
      go h None = refl
      go h (Some j) = h j

module _ (c : ℕ) (p : Value → Bool) (F : List ℕ) (g : ℕ) (w : List ℕ) (at : ℕ) where
  pub left_one : Left c p F g w at 1 at
  unfolding Left terms_by
  left_one xs s = one-term c p xs (parse w at)

  module _ (n i : ℕ) (q : Left c p F g w at n i) where
    pub left-none : n ≤ 0 → TermEnds c p F g w at (Some i)
    unfolding Left TermEnds terms_by end_of well_formed
    left-none z xs s = let e : n ≡ 0 = omega arith in rw e at (q xs s)

    module _ (z : 0 < n) where
      -- the first of them
      first-left : (r : ℕ) (xs : List ℕ) → Some r ≡ end_of (well_formed c p xs) (parse w i) → Scope F g xs → terms_end c p xs w (n - 1) r ≡ end_of (well_formed c p xs) (parse w at)
      unfolding Left
      first-left r xs e s = rw (sym e) at (first-end c p xs w n i z) ∙ q xs s

      first-none : (xs : List ℕ) → None ≡ end_of (well_formed c p xs) (parse w i) → Scope F g xs → None ≡ end_of (well_formed c p xs) (parse w at)
      unfolding Left
      first-none xs e s = rw (sym e) at (first-end c p xs w n i z) ∙ q xs s

      pub left-past : length w ≤ i → TermEnds c p F g w at None
      unfolding TermEnds end_of
      left-past k xs s = first-none xs (rw (parse-past w i k)) s

      module _ (G : List ℕ) (k : Kept F G) where
        module _ (o : Bool) (y : Leaf c p G g (get_or w i 0) o) where
          pub left-leaf : o ≡ true → Left c p F g w at (n - 1) (i + 1)
          unfolding Left Leaf Kept
          left-leaf u xs s = first-left (i + 1) xs (rw u at (y xs (rw k s) w (i + 1)) ∙ rw (parse-step w i)) s

          pub left-no-leaf : o ≡ false → TermEnds c p F g w at None
          unfolding TermEnds Leaf Kept
          left-no-leaf u xs s = first-none xs (rw u at (y xs (rw k s) w (i + 1)) ∙ rw (parse-step w i)) s

        pub left-form : (r : ℕ) → FormEnds c p G g w (get_or w i 0 / payload) (get_or w i 0 % payload) (i + 1) (Some r) → Left c p F g w at (n - 1) r
        unfolding Left FormEnds Kept head_at
        left-form r j xs s = first-left r xs (j xs (rw k s) ∙ rw (parse-step w i)) s

        pub left-no-form : FormEnds c p G g w (get_or w i 0 / payload) (get_or w i 0 % payload) (i + 1) None → TermEnds c p F g w at None
        unfolding TermEnds FormEnds Kept head_at
        left-no-form j xs s = first-none xs (j xs (rw k s) ∙ rw (parse-step w i)) s

      pub left-operands : (m : ℕ) → Opened c (get_or w i 0) m → Left c p F g w at (n - 1 + m) (i + 1)
      unfolding Left
      left-operands m y xs s =
          let a : n - 1 + m ≡ m + (n - 1) = omega arith in
          rw a (sym (some_end c p xs w m (n - 1) (i + 1)) ∙ ap (option_and_then (λ i. terms_end c p xs w (n - 1) i)) (y.ends p xs w (i + 1) ∙ rw (parse-step w i)) ∙ first-end c p xs w n i z ∙ q xs s)

pub ruleset left_laws = (rules, left_one, left-none, left-past, left-leaf, left-no-leaf, left-form, left-no-form, left-operands)

-- ---- fields
module _ (c : ℕ) (p : Value → Bool) (F : List ℕ) (g : ℕ) (w : List ℕ) (N n at : ℕ) where
  pub fields-none : n ≡ 0 → FieldsEnd c p F g w N n at (Some at)
  unfolding FieldsEnd inits_by end_of fields_well
  fields-none z xs ns s t = rw z

  module _ (z : n ≡ 0 → ⊥) where
    pub fields-end : length w ≤ at → FieldsEnd c p F g w N n at None
    unfolding FieldsEnd end_of
    fields-end l xs ns s t = go n z
      where
        go : (n : ℕ) → (n ≡ 0 → ⊥) → None ≡ end_of (fields_well c p xs ns) (parse_inits (length w) w n at)
        go zero z = absurd (z refl)
        go (suc n) z = rw (fields-past w at l n)

    module _ (o : Bool) (e : FieldHeader c N (get_or w at 0) o) where
      pub fields-not : o ≡ false → FieldsEnd c p F g w N n at None
      unfolding FieldsEnd FieldHeader inits_by fields_well
      fields-not u xs ns s t = go n z t
        where
          go : (n : ℕ) → (n ≡ 0 → ⊥) → Met N n ns → None ≡ end_of (fields_well c p xs ns) (parse_inits (length w) w n at)
          go zero z t = absurd (z refl)
          go (suc n) z t =
              headed-none Inits.field (field_head c ns) (fields_well c p xs ns) (parse w (at + 1)) (λ i. parse_inits (length w) w n i) (field_at (get_or w at 0)) (sym (e (suc n) ns (omega arith) t) ∙ u) (λ f d fs k. rw k)

      -- where the list ends whose first value is looked for at the next word
      module _ (u : o ≡ true) (xs ns : List ℕ) (t : Met N n ns) where
        fields-lead : (r : Maybe ℕ) → ((m : ℕ) (f : ℕ) → field_at (get_or w at 0) ≡ some f → field_head c ns f ≡ true → Met N (suc m) ns → n ≡ suc m
            → r ≡ option_and_then (λ i. end_of (fields_well c p xs (f ∷ ns)) (parse_inits (length w) w m i)) (end_of (well_formed c p xs) (parse w (at + 1)))) → r ≡ end_of (fields_well c p xs ns) (parse_inits (length w) w n at)
        unfolding FieldHeader inits_by fields_well
        fields-lead r h = go n z t (λ m f d k x i. h m f d k x i)
          where
            go : (n : ℕ) → (n ≡ 0 → ⊥) → Met N n ns → ((m : ℕ) (f : ℕ) → field_at (get_or w at 0) ≡ some f → field_head c ns f ≡ true → Met N (suc m) ns → n ≡ suc m
                → r ≡ option_and_then (λ i. end_of (fields_well c p xs (f ∷ ns)) (parse_inits (length w) w m i)) (end_of (well_formed c p xs) (parse w (at + 1)))) → r ≡ end_of (fields_well c p xs ns) (parse_inits (length w) w n at)
            go zero z t h = absurd (z refl)
            go (suc n) z t h =
                headed Inits.field (field_head c ns) (fields_well c p xs ns) (parse w (at + 1)) (λ i. parse_inits (length w) w n i) (field_at (get_or w at 0)) r (sym (e (suc n) ns (omega arith) t) ∙ u)
                (λ f d k. h n f d k t refl
                ∙ ends-pair (Inits.field f) (fields_well c p xs ns) (well_formed c p xs) (fields_well c p xs (f ∷ ns)) (parse w (at + 1)) (λ i. parse_inits (length w) w n i) (λ d i fs m x y. rw k))

      pub fields-stop : o ≡ true → TermEnds c p F g w (at + 1) None → FieldsEnd c p F g w N n at None
      unfolding FieldsEnd TermEnds
      fields-stop u i xs ns s t = fields-lead u xs ns t None (λ m f d k x y. rw (sym (i xs s)))

      pub fields-more : (a M : ℕ) (r : Maybe ℕ) (G : List ℕ) → c ≤ 64 → o ≡ true → TermEnds c p F g w (at + 1) (Some a) → Kept F G → M ≡ noted tagged_limit N (get_or w at 0 % tagged_limit) → FieldsEnd c p G g w M (n - 1) a r → FieldsEnd c p F g w N n at r
      unfolding FieldsEnd TermEnds Kept
      fields-more a M r G b u i v m j xs ns s t =
          fields-lead u xs ns t r (λ k f d l x y.
          (let q = holding _ (field_at (get_or w at 0)) f (field-word (get_or w at 0)) d in
          let z : get_or w at 0 % tagged_limit ≡ f = omega (arith, q) in
          let x : Met M k (f ∷ ns) = rw (m ∙ ap (noted tagged_limit N) z) (met-noted N k f ns (omega (arith, q.0)) x) in
          let h : n - 1 ≡ k = omega arith in
          rw h at (j xs (f ∷ ns) (rw v s) (rw h x)) ∙ rw (sym (i xs s))))

pub ruleset fields_laws = (rules, fields-none, fields-end, fields-not, fields-stop, fields-more)

-- ---- methods
module _ (c : ℕ) (p : Value → Bool) (F : List ℕ) (g : ℕ) (w : List ℕ) (N n at : ℕ) where
  pub methods-none : n ≡ 0 → MethodsEnd c p F g w N n at (Some at)
  unfolding MethodsEnd methods_by end_of methods_well
  methods-none z xs ns s t = rw z

  module _ (z : n ≡ 0 → ⊥) where
    pub methods-end : length w ≤ at → MethodsEnd c p F g w N n at None
    unfolding MethodsEnd end_of
    methods-end l xs ns s t = go n z
      where
        go : (n : ℕ) → (n ≡ 0 → ⊥) → None ≡ end_of (methods_well c p xs ns) (parse_methods (length w) w n at)
        go zero z = absurd (z refl)
        go (suc n) z = rw (methods-past w at l n)

    module _ (o : Bool) (e : MethodHeader c N (get_or w at 0) o) where
      -- the constructor, by what a header has
      abbrev headed-method : ℕ × List ℕ → Term → Methods → Methods
      headed-method q d ms = method q.0 q.1 d ms

      pub methods-not : o ≡ false → MethodsEnd c p F g w N n at None
      unfolding MethodsEnd MethodHeader methods_by methods_well
      methods-not u xs ns s t = go n z t
        where
          go : (n : ℕ) → (n ≡ 0 → ⊥) → Met N n ns → None ≡ end_of (methods_well c p xs ns) (parse_methods (length w) w n at)
          go zero z t = absurd (z refl)
          go (suc n) z t =
              headed-none headed-method (method_head c ns) (methods_well c p xs ns) (parse w (at + 1)) (λ i. parse_methods (length w) w n i) (method_at (get_or w at 0)) (sym (e (suc n) ns (omega arith) t) ∙ u) (λ q d ms k. rw k)

      -- where the list ends whose first body is looked for at the next word
      module _ (u : o ≡ true) (xs ns : List ℕ) (t : Met N n ns) where
        methods-lead : (r : Maybe ℕ) → ((m : ℕ) (q : ℕ × List ℕ) → method_at (get_or w at 0) ≡ some q → method_head c ns q ≡ true → Met N (suc m) ns → n ≡ suc m
            → r ≡ option_and_then (λ i. end_of (methods_well c p xs (sign q.0 q.1 ∷ ns)) (parse_methods (length w) w m i)) (end_of (well_formed c p (q.1 ++ xs)) (parse w (at + 1)))) → r ≡ end_of (methods_well c p xs ns) (parse_methods (length w) w n at)
        unfolding MethodHeader methods_by methods_well
        methods-lead r h = go n z t (λ m q d k x i. h m q d k x i)
          where
            go : (n : ℕ) → (n ≡ 0 → ⊥) → Met N n ns → ((m : ℕ) (q : ℕ × List ℕ) → method_at (get_or w at 0) ≡ some q → method_head c ns q ≡ true → Met N (suc m) ns → n ≡ suc m
                → r ≡ option_and_then (λ i. end_of (methods_well c p xs (sign q.0 q.1 ∷ ns)) (parse_methods (length w) w m i)) (end_of (well_formed c p (q.1 ++ xs)) (parse w (at + 1)))) → r ≡ end_of (methods_well c p xs ns) (parse_methods (length w) w n at)
            go zero z t h = absurd (z refl)
            go (suc n) z t h =
                headed headed-method (method_head c ns) (methods_well c p xs ns) (parse w (at + 1)) (λ i. parse_methods (length w) w n i) (method_at (get_or w at 0)) r (sym (e (suc n) ns (omega arith) t) ∙ u)
                (λ q d k. h n q d k t refl
                ∙ ends-pair (headed-method q) (methods_well c p xs ns) (well_formed c p (q.1 ++ xs)) (methods_well c p xs (sign q.0 q.1 ∷ ns)) (parse w (at + 1)) (λ i. parse_methods (length w) w n i) (λ d i ms m x y. rw k))

      -- the scope of a method's body
      body-scope : (xs : List ℕ) → Scope F g xs → (q : ℕ × List ℕ) → method_at (get_or w at 0) ≡ some q → Scope (bound F g (get_or w at 0 / tagged_limit)) g (q.1 ++ xs)
      body-scope xs s q f = (holding _ (method_at (get_or w at 0)) q (method-bound F g xs s (get_or w at 0)) f).2

      pub methods-stop : o ≡ true → TermEnds c p (bound F g (get_or w at 0 / tagged_limit)) g w (at + 1) None → MethodsEnd c p F g w N n at None
      unfolding MethodsEnd TermEnds
      methods-stop u i xs ns s t = methods-lead u xs ns t None (λ m q d k x y. rw (sym (i (q.1 ++ xs) (body-scope xs s q d))))

      pub methods-more : (a M : ℕ) (r : Maybe ℕ) (G : List ℕ) → c ≤ 64 → o ≡ true → TermEnds c p (bound F g (get_or w at 0 / tagged_limit)) g w (at + 1) (Some a) → Kept F G → M ≡ noted tagged_limit N (get_or w at 0 % tagged_limit)
          → MethodsEnd c p G g w M (n - 1) a r → MethodsEnd c p F g w N n at r
      unfolding MethodsEnd TermEnds Kept
      methods-more a M r G b u i v m j xs ns s t =
          methods-lead u xs ns t r (λ k q d l x y.
          (let z = holding _ (method_at (get_or w at 0)) q (signed_word (get_or w at 0)) d in
          let x : Met M k (sign q.0 q.1 ∷ ns) = rw (m ∙ ap (noted tagged_limit N) (sym z)) (met-noted N k (sign q.0 q.1) ns (omega (arith, z)) x) in
          let h : n - 1 ≡ k = omega arith in
          rw h at (j xs (sign q.0 q.1 ∷ ns) (rw v s) (rw h x)) ∙ rw (sym (i (q.1 ++ xs) (body-scope xs s q d)))))

pub ruleset methods_laws = (rules, methods-none, methods-end, methods-not, methods-stop, methods-more)
