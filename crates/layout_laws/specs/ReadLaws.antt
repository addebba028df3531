-- Words read onto the stack, whatever the expressions: a node, the three headers, and a node or a header with what follows it.
-- Each law is one step of the induction by which an expression's words give the expression back. Assumes nothing.
use Prim.Native.Nat.{ℕ, zero, suc, ◌+◌, ◌-◌, ◌*◌, ◌≤◌, ◌<◌}
use Rattle.std.specs.Prelude.{◌≡◌, drop}
use Rattle.std.proofs.Math.Path.{refl, ap}
use Rattle.std.proofs.Common.{◌∙◌}
use mathlib.Core.List.{List, [], ◌∷◌, ◌++◌, append_assoc}
use native.Mathlib.Omega.{arith}
use borrow.Author.Tests.{lt-ltb, le-ltb}
use Rattle.std.proofs.Math.ListN.{length}
use Rattle.layout.specs.Numbers.{payload, field_kind, header, method_unit, name_limit, places_limit}
use Rattle.layout.specs.Pack.{node, zeros, places}
use Rattle.layout.specs.Terms.{field_header, method_header}
use Rattle.decoding.specs.Reading.{Item, alone, a_field, a_definition, a_method, first, push, stack}
use Rattle.layout_laws.specs.PackLaws.{pack-low, pack-high, Each, NameFits, places-back}

module _ {E : Type 0} (none : E) (form : ℕ → ℕ → List (Item E) → List (Item E)) where
  pub push-node : (k p : ℕ) (s : List (Item E)) → p < payload → k < field_kind → push none form (node k p) s ≡ form k p s
  unfolding push
  push-node k p s h l =
      let b : p + payload * k < header = omega arith in
      rw (lt-ltb (p + payload * k) header b, pack-low payload p k h, pack-high payload p k h)

  pub push-field : (f : ℕ) (s : List (Item E)) → NameFits f → push none form (field_header f) s ≡ a_field f (first none s) ∷ drop 1 s
  unfolding push
  push-field f s h =
      let w = f + payload * field_kind in
      let b : header ≤ w = omega arith in
      let c : w < (130 * payload) = omega (arith, h) in
      let d : w - header ≡ f = omega arith in
      rw (le-ltb w header b, lt-ltb w (130 * payload) c, d)

  pub push-definition : (x : ℕ) (s : List (Item E)) → NameFits x → push none form (node 130 x) s ≡ a_definition x (first none s) ∷ drop 1 s
  unfolding push
  push-definition x s h =
      let w = x + payload * 130 in
      let b : header ≤ w = omega arith in
      let c : (130 * payload) ≤ w = omega arith in
      let d : w < (3 * method_unit) = omega (arith, h) in
      let e : w - 130 * payload ≡ x = omega arith in
      rw (le-ltb w header b, le-ltb w (130 * payload) c, lt-ltb w (3 * method_unit) d, e)

  pub push-method : (m : ℕ) (xs : List ℕ) (s : List (Item E)) → NameFits m → Each NameFits xs → length xs ≤ 3 → push none form (method_header m xs) s ≡ a_method m xs (first none s) ∷ drop 1 s
  unfolding push method_header
  push-method m xs s h g l =
      let w = m + name_limit * (length xs + 4 * (places xs + places_limit * 3)) in
      let q = length xs + 4 * places xs in
      let b : header ≤ w = omega arith in
      let c : (130 * payload) ≤ w = omega arith in
      let d : (3 * method_unit) ≤ w = omega arith in
      let e : w - 3 * method_unit ≡ m + name_limit * q = omega arith in
      let i : m < name_limit = omega (arith, h) in
      let n : length xs < 4 = omega arith in
      rw (
        le-ltb w header b,
        le-ltb w (130 * payload) c,
        le-ltb w (3 * method_unit) d,
        e,
        pack-low name_limit m q i,
        pack-high name_limit m q i,
        pack-low 4 (length xs) (places xs) n,
        pack-high 4 (length xs) (places xs) n,
        places-back xs l g,
      )

  -- two ranges of words, the second read first
  pub stack-two : (a b r : List ℕ) (s t : List (Item E)) → stack none form (a ++ (b ++ r)) ≡ s → s ≡ t → stack none form ((a ++ b) ++ r) ≡ t
  stack-two a b r s t p q = ap (stack none form) (append_assoc a b r) ∙ p ∙ q

  -- a header, the expression behind it, and what follows
  pub stack-headed : (w : ℕ) (a b r : List ℕ) (i : Item E) (e : E) (y : List (Item E)) → ((s : List (Item E)) → push none form w (alone e ∷ s) ≡ i ∷ s)
      → stack none form (a ++ (b ++ r)) ≡ alone e ∷ stack none form (b ++ r) → stack none form (b ++ r) ≡ y ++ stack none form r
      → stack none form (w ∷ ((a ++ b) ++ r)) ≡ i ∷ (y ++ stack none form r)
  unfolding stack
  stack-headed w a b r i e y f p q = ap (push none form w) (stack-two a b r _ _ p (ap (λ s. alone e ∷ s) q)) ∙ f (y ++ stack none form r)

  -- a node with two ranges of words behind it: any two lists, or two expressions
  module _ (k p : ℕ) (h : k < field_kind) (l : p < payload) where
    pub stack-lists : (a b r : List ℕ) (x y t : List (Item E)) → stack none form (a ++ (b ++ r)) ≡ x ++ stack none form (b ++ r)
        → stack none form (b ++ r) ≡ y ++ stack none form r → form k p (x ++ (y ++ stack none form r)) ≡ t → stack none form (node k p ∷ ((a ++ b) ++ r)) ≡ t
    unfolding stack
    stack-lists a b r x y t i j e =
        ap (push none form (node k p)) (stack-two a b r _ _ i (ap (λ s. x ++ s) j)) ∙ push-node k p (x ++ (y ++ stack none form r)) l h ∙ e

    pub stack-exprs : (a b r : List ℕ) (x y e : E) → stack none form (a ++ (b ++ r)) ≡ alone x ∷ stack none form (b ++ r) → stack none form (b ++ r) ≡ alone y ∷ stack none form r
        → form k p (alone x ∷ alone y ∷ stack none form r) ≡ alone e ∷ stack none form r → stack none form (node k p ∷ ((a ++ b) ++ r)) ≡ alone e ∷ stack none form r
    stack-exprs a b r x y e i j d = stack-lists a b r (alone x ∷ []) (alone y ∷ []) (alone e ∷ stack none form r) i j d

    -- and with one list
    pub stack-list : (a r : List ℕ) (x t : List (Item E)) → stack none form (a ++ r) ≡ x ++ stack none form r
        → form k p (x ++ stack none form r) ≡ t → stack none form (node k p ∷ (a ++ r)) ≡ t
    unfolding stack
    stack-list a r x t i e = ap (push none form (node k p)) i ∙ push-node k p (x ++ stack none form r) l h ∙ e

  -- zeros are read as nothing where the kind 0 is
  pub stack-zeros : (form 0 0 [] ≡ []) → (n : ℕ) → stack none form (zeros n) ≡ []
  unfolding zeros stack
  stack-zeros z zero = refl
  stack-zeros z (suc n) = ap (push none form 0) (stack-zeros z n) ∙ push-node 0 0 [] (omega arith) (omega arith) ∙ z
