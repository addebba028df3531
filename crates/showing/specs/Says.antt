-- What the words of a term or an expression say: the text before the operands, the names behind the first of them and the number of
-- operands. Assumes nothing.
use Rattle.std.specs.Prelude.{◌≡◌, false, ltb}
use Rattle.std.proofs.Math.Path.{refl}
use Rattle.std.proofs.Common.{sym, ap, ◌∙◌}
use mathlib.Core.List.{List, [], ◌∷◌, ◌++◌, append_assoc, append-nil}
use Prim.Native.Nat.{ℕ, ◌/◌, ◌%◌, ◌≤◌, ◌<◌, min}
use native.Mathlib.Omega.{arith}
use borrow.Author.Tests.{le-ltb, ne_eqb}
use Rattle.atlite.specs.Lexicon.{Bytes}
use Rattle.atlite.specs.Keywords.{method_word}
use Rattle.atlite.specs.Printer.{form}
use Rattle.reading.specs.Items.{behind, behind-append, form-closing}
use Rattle.layout.specs.Numbers.{payload, field_kind, name_limit, no_name, tagged_limit, second_place, third_place}
use Rattle.layout_laws.specs.Arity.{arity, arity-header}
use Rattle.decoding.specs.Kinds.{Words, row_of}
use Rattle.layout_laws.specs.KindLaws.{row-none}
use Rattle.showing.specs.TextOfWords.{name_in, first_in, second, places_in, params_in, after, after_in, count, operator_in, head_in, Text}

-- ---- items
pub behind-text : (items : List Bytes) (j : Bytes) → behind items [] ++ j ≡ behind items j
behind-text [] j = refl
behind-text (s ∷ items) j = ap {B = Bytes} (λ u. 32 ∷ u) (append_assoc s (behind items []) j ∙ ap {B = Bytes} (λ u. s ++ u) (behind-text items j))

pub form-text : (key : Bytes) (before items : List Bytes)
    → ((40 ∷ []) ++ (key ++ behind before [])) ++ (behind items [] ++ (41 ∷ [])) ≡ form (key ∷ (before ++ items))
form-text key before items =
    ap {B = Bytes} (λ u. 40 ∷ u) (append_assoc key (behind before []) _ ∙ ap {B = Bytes} (λ u. key ++ u)
    (behind-text before _ ∙ ap {B = Bytes} (λ u. behind before u) (behind-text items (41 ∷ [])) ∙ sym (behind-append before items (41 ∷ []))))
    ∙ sym (form-closing key (before ++ items) []) ∙ append-nil (form (key ∷ (before ++ items)))

abbrev pub showing : Bytes → List ℕ → Text
showing s r = record { text = s; rest = r }

-- The word h is that of a form: the bracket, the operator key and the names before stand in front of its n operands, and the names ns
-- behind the first of them, so that there are none where there is no operand.
pub record Says (t : List ℕ) (h : ℕ) (key : Bytes) (before ns : List Bytes) (n : ℕ) : Type 0 where
  pub is_form : ltb (h / payload) 7 ≡ false
  pub head : head_in t h ≡ (40 ∷ []) ++ (key ++ behind before [])
  pub named : name_in t (after h) ≡ behind ns []
  pub count : count h ≡ n
  pub some : n ≡ 0 → ns ≡ []

module _ {t : List ℕ} {h : ℕ} {key : Bytes} {n : ℕ} (f : ltb (h / payload) 7 ≡ false) where
  -- no name behind the first operand, or one
  pub plainly : {before : List Bytes} → head_in t h ≡ (40 ∷ []) ++ (key ++ behind before []) → after h ≡ no_name → arity h ≡ n → n ≤ 14 → Says t h key before [] n
  unfolding name_in
  plainly e a c l = record { is_form = f; head = e; named = rw a; count = omega arith; some = λ z. refl }

  pub naming : (x : ℕ) {y : Bytes} → name_in t x ≡ 32 ∷ y → head_in t h ≡ (40 ∷ []) ++ (key ++ []) → after h ≡ x → arity h ≡ n → 0 < n → n ≤ 14 → Says t h key [] (y ∷ []) n
  naming x {y} g e a c l m = record { is_form = f; head = e; named = rw (a, g, append-nil y); count = omega arith; some = λ z. absurd (omega arith) }

-- ---- methods
-- a method's header: its name m, and x y z in the places of its parameters
module _ (t : List ℕ) (h m x y z : ℕ)
    (k : 192 ≤ h / payload) (a : h % name_limit ≡ m) (b : h / tagged_limit % name_limit ≡ x) (c : h / second_place % name_limit ≡ y) (d : h / third_place % name_limit ≡ z)
  where
    pub says-method : (s p : Bytes) → name_in t m ≡ 32 ∷ s → places_in t x y z ≡ 32 ∷ p → Says t h method_word (s ∷ p ∷ []) [] 1
    unfolding head_in operator_in first_in second params_in name_in after_in row_of Words
    says-method s p f g =
        let j = h / payload in
        let top : min 192 j ≡ 192 = omega arith in
        plainly (le-ltb j 7 (omega arith))
        (rw (top, le-ltb j field_kind (omega arith), le-ltb j 192 k, ne_eqb j 12 (λ e. omega arith), a, b, c, d, f, g, append-nil p))
        (rw (row-none j (omega arith), ne_eqb j 13 (λ e. omega arith), ne_eqb j 14 (λ e. omega arith), ne_eqb j 64 (λ e. omega arith), ne_eqb j 67 (λ e. omega arith)))
        (arity-header h (omega arith)) (omega arith)
