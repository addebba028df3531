-- Operators by the kinds of their words, and what the table of kinds tells of the operator of a kind: how many operands it has, and whether
-- a name stands behind the first. Shown once for all operators: each list is compared with the other by one test that is computed.
-- Assumes nothing.
use Rattle.std.specs.Prelude.{◌≡◌, Bool, ◌||◌, cond, ℕ, ◌≤◌, ◌<◌, if◌then◌else◌}
use Rattle.std.proofs.Math.Path.{refl, sym, ap}
use Rattle.std.proofs.Common.{◌∙◌, eqb-true, eq-eqb, ne_eqb}
use Rattle.std.proofs.Math.Bool.{true, false}
use Rattle.std.proofs.lemmas.Bool.{false≢true}
use Rattle.std.proofs.Math.Option.{Option, none, some}
use mathlib.Core.List.{List, [], ◌∷◌, ◌++◌, map}
use native.Mathlib.Omega.{arith}
use Rattle.std.proofs.Math.Dec.{eqb}
use Rattle.atlite.specs.Base.{same_bytes, all}
use Rattle.atlite_laws.specs.Facts.{and₂}
use Rattle.atlite.specs.Term.{Op, written, demanded, Shape, exactly}
use Rattle.atlite.specs.Lexicon.{Bytes}
use Rattle.atlite.specs.Keywords.{Operator, naming, operators, spelling}
use Rattle.atlite.specs.Script.{SrcOp, kept, src_shape}
use Rattle.atlite.specs.Reader.{spelled}
use Rattle.layout.specs.Terms.{op_kind}
use Rattle.layout.specs.Tables.{src_kind}
use Rattle.decoding.specs.Kinds.{Kinds, Words, Bare, Form, forms, form_kind, form_at, form_in, operator_kind, keywords, kind_of, kind_in, row_in}
use Rattle.layout_laws.specs.KindRows.{by_kind}
use Rattle.layout_laws.specs.KindLaws.{bare-found, bare-row, field_found, field_row}
use Rattle.scan.specs.Keywords.{absent, distinct, keywords-distinct, kind-absent}

-- the operator of kind k
unfoldable pub operator_of : List Operator → ℕ → Option Operator
operator_of [] k = none
operator_of (o ∷ os) k = cond (eqb (operator_kind o) k) (some o) (operator_of os k)

-- ---- words
abbrev entries : List Operator → List (Bytes × ℕ)
entries os = map (λ o. (spelling o, operator_kind o)) os

module _ (w : Bytes) where
  -- the operator that is spelled so is that of its word's kind
  spelled-kind : (os : List Operator) (vs : List (Bytes × ℕ)) → distinct (entries os ++ vs) ≡ true → spelled os w ≡ operator_of os (kind_of (entries os ++ vs) w)
  unfolding spelled operator_of kind_of distinct
  spelled-kind [] vs h = refl
  spelled-kind (o ∷ os) vs h =
      let (i, j) = and₂ (absent (operator_kind o) (entries os ++ vs)) (distinct (entries os ++ vs)) h in
      go (same_bytes (spelling o) w) (kind-absent w (operator_kind o) (entries os ++ vs) i) (spelled-kind os vs j)
    where
      go : (b : Bool) → eqb (operator_kind o) (kind_of (entries os ++ vs) w) ≡ false → spelled os w ≡ operator_of os (kind_of (entries os ++ vs) w)
          → (if b then some o else spelled os w) ≡ operator_of (o ∷ os) (cond b (operator_kind o) (kind_of (entries os ++ vs) w))
      go true i h = rw (eq-eqb (operator_kind o) (operator_kind o) refl)
      go false i h = rw i h

  pub operator-kind : spelled operators w ≡ operator_of operators (kind_in w)
  unfolding kind_in keywords
  operator-kind = spelled-kind operators _ keywords-distinct

-- ---- the table of kinds
-- the operator whose word begins a form, d for a form of another shape
unfoldable begun : Form → Option Operator → Option Operator
begun Form.nothing d = d
begun Form.null_value d = d
begun Form.number d = d
begun Form.reference d = d
begun Form.variable d = d
begun (Form.bare o n e) d = some (Operator.bare (kept o))
begun (Form.on_field c k n e) d = some (naming (λ f. kept (c f)))
begun Form.let_in d = d
begun Form.future d = d
begun Form.calls d = d
begun Form.sends d = d
begun (Form.literal c) d = d

-- the operators have what the forms say
abbrev Agree : List Form → Type 0
Agree rs = map (λ r. begun r (operator_of operators (form_kind r))) rs ≡ map (λ r. operator_of operators (form_kind r)) rs

forms-agree : Agree forms
unfolding begun Kinds Words operator_of
forms-agree = refl

agree : (k : ℕ) (rs : List Form) → Agree rs → begun (form_at rs k) (operator_of operators k) ≡ operator_of operators k
unfolding begun form_at
agree k [] h = refl
agree k (r ∷ rs) h = go (eqb (form_kind r) k) refl (cc) (agree k rs (cc))
  where
    go : (b : Bool) → eqb (form_kind r) k ≡ b → begun r (operator_of operators (form_kind r)) ≡ operator_of operators (form_kind r)
        → begun (form_at rs k) (operator_of operators k) ≡ operator_of operators k → begun (cond b r (form_at rs k)) (operator_of operators k) ≡ operator_of operators k
    go true e h i = rw (← eqb-true (form_kind r) k e) h
    go false e h i = i

agreed : (k : ℕ) (r : Form) → form_in k ≡ r → operator_of operators k ≡ begun r (operator_of operators k)
unfolding form_in
agreed k r e = sym (rw (← e) (agree k forms forms-agree))

bare-kind : (k : ℕ) (o : Op ℕ) (n : ℕ) (e : Bare o n) → form_in k ≡ Form.bare o n e → op_kind (written o) ≡ k
unfolding form_kind
bare-kind k o n e = by_kind (λ k r. r ≡ Form.bare o n e → op_kind (written o) ≡ k) (λ k q. absurd (let z : ◌≡◌ {A = ℕ} 0 1 = cc in omega arith)) (λ r q. sym (ap form_kind q)) k

-- of kind k is the operator q, with n operands, or the operators c, one for each name
pub record IsBare (k n : ℕ) : Type 0 where
  pub operator : SrcOp
  pub found : operator_of operators k ≡ some (Operator.bare operator)
  pub shape : src_shape operator ≡ exactly n
  pub kind : src_kind operator ≡ k

pub record IsNaming (k n : ℕ) : Type 0 where
  pub operator : ℕ → SrcOp
  pub found : operator_of operators k ≡ some (naming operator)
  pub shape : (f : ℕ) → src_shape (operator f) ≡ Shape.on_field f n
  pub kind : (f : ℕ) → src_kind (operator f) ≡ k
  pub some_left : 0 < n

module _ (k f n : ℕ) (p : f ≡ (row_in k).operator) (m : n ≡ (row_in k).operands) where
  pub is-bare : f ≡ 1 → IsBare k n
  unfolding begun
  is-bare e =
      let (o, j, h, q) = bare-found k (sym p ∙ e) in
      let z : j ≡ n = sym (m ∙ (bare-row k o j h q).0) in
      record { operator = kept o; found = agreed k _ q; shape = h.0 ∙ ap exactly z; kind = bare-kind k o j h q }

  pub is-naming : f ≡ 2 → IsNaming k n
  unfolding begun
  is-naming e =
      let (c, j, h, q) = field_found k (sym p ∙ e) in
      let z : j ≡ n = sym (m ∙ (field_row c k j h q).0) in
      let l = h.1 in
      record { operator = λ f. kept (c f); found = agreed k _ q; shape = λ f. (h.0 f).0 ∙ ap (Shape.on_field f) z; kind = λ f. (h.0 f).2; some_left = omega arith }

  pub field-counts : f ≡ 2 → 1 ≤ n
  field-counts e = let h = is-naming e in omega (arith, h.some_left)

-- ---- no operator
-- the kinds of forms of their own
abbrev pub own_kinds : List ℕ
own_kinds = 68 ∷ 67 ∷ 66 ∷ 65 ∷ 64 ∷ 17 ∷ 16 ∷ 15 ∷ 14 ∷ 13 ∷ 12 ∷ 11 ∷ []

unfoldable formed : List ℕ → ℕ → Bool
formed [] k = eqb (row_in k).operator 1 || eqb (row_in k).operator 2
formed (j ∷ js) k = eqb k j || formed js k

abbrev pub Unformed : List ℕ → ℕ → Type 0
Unformed [] k = Unit {0}
Unformed (j ∷ js) k = Unformed js k × (k ≡ j → ⊥)

operators-formed : all (λ o. formed own_kinds (operator_kind o)) operators ≡ true
unfolding all formed Kinds Words demanded
operators-formed = refl

unformed : (k : ℕ) (js : List ℕ) → ((row_in k).operator ≡ 1 → ⊥) → ((row_in k).operator ≡ 2 → ⊥) → Unformed js k → formed js k ≡ false
unfolding formed
unformed k [] x y h = rw (ne_eqb (row_in k).operator 1 x, ne_eqb (row_in k).operator 2 y)
unformed k (j ∷ js) x y h = rw (ne_eqb k j h.1) (unformed k js x y h.0)

-- no operator has the kind of no word
pub no-kind : operator_of operators 0 ≡ none
unfolding operator_of Kinds Words demanded
no-kind = refl

none-formed : (k : ℕ) (os : List Operator) → formed own_kinds k ≡ false → all (λ o. formed own_kinds (operator_kind o)) os ≡ true → operator_of os k ≡ none
unfolding operator_of all
none-formed k [] x h = refl
none-formed k (o ∷ os) x h =
    let (i, j) = and₂ (formed own_kinds (operator_kind o)) (all (λ o. formed own_kinds (operator_kind o)) os) h in go (eqb (operator_kind o) k) refl i (none-formed k os x j)
  where
    go : (b : Bool) → eqb (operator_kind o) k ≡ b → formed own_kinds (operator_kind o) ≡ true → operator_of os k ≡ none → cond b (some o) (operator_of os k) ≡ none
    go true e i j = absurd (false≢true (sym x ∙ rw (← eqb-true (operator_kind o) k e) i))
    go false e i j = j

pub no-operator : (k : ℕ) → ((row_in k).operator ≡ 1 → ⊥) → ((row_in k).operator ≡ 2 → ⊥) → Unformed own_kinds k → operator_of operators k ≡ none
no-operator k x y h = none-formed k operators (unformed k own_kinds x y h) operators-formed
