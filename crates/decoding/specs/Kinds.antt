-- The table of kinds: which form a word's kind stands for. One row a form, an operator's under its kind (`op_kind`); how many operands
-- follow, how many of them are demanded, what the payload names and which word spells it are asked of the row. So what is true of all
-- operators of one shape is shown once, and a new operator is a row and a line of `row` and `src-row`. Assumes nothing; nothing here need
-- be believed.
use Rattle.std.specs.Prelude.{ℕ, suc, ◌+◌, ◌-◌, ◌≤◌, ◌<◌, ◌/◌, ◌%◌, ◌≡◌, refl, cond, List, [], ◌∷◌, ◌++◌, map, eqb, ltb, get_or}
use Rattle.std.proofs.Common.{arith}
use Rattle.atlite.specs.Base.{same_bytes}
use Rattle.atlite.specs.Lexicon.{Bytes}
use Rattle.atlite.specs.Keywords.{Keywords, null_word, this_word, def_word, field_word, method_word, Operator, naming, fn, when, operators, spelling}
use Rattle.atlite.specs.Term.{this, Op, plus, percent, same, choose, get, set, written, demanded, Shape, exactly, shape, Kind}
use Rattle.layout.specs.Numbers.{field_kind, name_limit, tag_limit, digit_limit}
use Rattle.layout.specs.Terms.{op_kind, kind_number}
use Rattle.layout.specs.Tables.{src_kind}

-- ---- rows
-- an operator with n operands and no name, which demands no more than these
abbrev pub Bare : Op ℕ → ℕ → Type 0
Bare o n = (shape o ≡ exactly n) × (shape (written o) ≡ exactly n) × (0 < n) × (n < 4) × (demanded (written o) n ≤ n)

-- operators of kind k, one for each field, with n operands, all of them demanded
abbrev pub Fields : (ℕ → Op ℕ) → ℕ → ℕ → Type 0
Fields c k n =
    ((f : ℕ) → (shape (c f) ≡ Shape.on_field f n) × (shape (written (c f)) ≡ Shape.on_field f n) × (op_kind (written (c f)) ≡ k) × ((m : ℕ) → demanded (written (c f)) m ≡ m))
    × (0 < n) × (n < 4)

pub data Form : Type 0 where
  nothing : Form
  null_value number reference variable : Form
  bare : (o : Op ℕ) (n : ℕ) → Bare o n → Form
  on_field : (c : ℕ → Op ℕ) (k n : ℕ) → Fields c k n → Form
  let_in future calls sends : Form
  literal : Kind → Form

unfoldable pub form_kind : Form → ℕ
form_kind nothing = 0
form_kind null_value = 1
form_kind number = 2
form_kind reference = 3
form_kind variable = 6
form_kind (bare o n e) = op_kind (written o)
form_kind (on_field c k n e) = k
form_kind let_in = 11
form_kind future = 12
form_kind calls = 13
form_kind sends = 14
form_kind (literal k) = kind_number k

unfoldable pub forms : List Form
unfolding demanded
forms =
    null_value ∷ number ∷ reference ∷ variable
    ∷ bare plus 2 (refl, refl, omega arith, omega arith, omega arith) ∷ bare percent 2 (refl, refl, omega arith, omega arith, omega arith)
    ∷ on_field get 9 1 ((λ f. (refl, refl, refl, λ m. refl)), omega arith, omega arith) ∷ on_field set 10 2 ((λ f. (refl, refl, refl, λ m. refl)), omega arith, omega arith)
    ∷ let_in ∷ future ∷ calls ∷ sends
    ∷ literal Kind.object ∷ literal Kind.isolate ∷ literal Kind.actor
    ∷ bare same 2 (refl, refl, omega arith, omega arith, omega arith) ∷ bare choose 3 (refl, refl, omega arith, omega arith, omega arith) ∷ []

unfoldable pub form_at : List Form → ℕ → Form
form_at [] k = nothing
form_at (r ∷ rs) k = cond (eqb (form_kind r) k) r (form_at rs k)

unfoldable pub form_in : ℕ → Form
form_in k = form_at forms k

-- ---- what the rows say
-- how many operands stand behind a word with the payload p
unfoldable pub operands_of : Form → ℕ → ℕ
operands_of nothing p = 0
operands_of null_value p = 0
operands_of number p = 0
operands_of reference p = 0
operands_of variable p = 0
operands_of (bare o n e) p = n
operands_of (on_field c k n e) p = n
operands_of let_in p = 2
operands_of future p = 1
operands_of calls p = suc (p / name_limit / tag_limit)
operands_of sends p = suc (p / name_limit / tag_limit)
operands_of (literal k) p = p % digit_limit + p / digit_limit

-- how many of n operands become values before the word is a redex: of a let the bound part
unfoldable pub demand_of : Form → ℕ → ℕ
demand_of nothing n = 0
demand_of null_value n = 0
demand_of number n = 0
demand_of reference n = 0
demand_of variable n = 0
demand_of (bare o k e) n = demanded (written o) n
demand_of (on_field c k m e) n = n
demand_of let_in n = 1
demand_of future n = 0
demand_of calls n = n
demand_of sends n = n
demand_of (literal k) n = 0

-- the operands of the kinds from 64 on, which only a table has: ask, fn, resolve, when, seq
abbrev pub script_counts : ℕ → List ℕ
script_counts p = (1 + p / name_limit / tag_limit) ∷ 1 ∷ 2 ∷ 2 ∷ 2 ∷ []

unfoldable pub script_operands : ℕ → ℕ → ℕ
script_operands k p = get_or (script_counts p) (k - 64) 0

-- what the kind alone tells: of how many operands, whatever the payload, how many are demanded; and which operator it is, 1 for one without
-- a name and 2 for one with a field's
pub record Told : Type 0 where
  pub operands : ℕ
  pub demand : ℕ
  pub operator : ℕ

abbrev tells : ℕ → ℕ → ℕ → Told
tells n d o = record { operands = n; demand = d; operator = o }

unfoldable pub row_of : Form → Told
row_of nothing = tells 0 0 0
row_of null_value = tells 0 0 0
row_of number = tells 0 0 0
row_of reference = tells 0 0 0
row_of variable = tells 0 0 0
row_of (bare o n e) = tells n (demanded (written o) n) 1
row_of (on_field c k n e) = tells n n 2
row_of let_in = tells 2 1 0
row_of future = tells 1 0 0
row_of calls = tells 0 0 0
row_of sends = tells 0 0 0
row_of (literal k) = tells 0 0 0

unfoldable pub row_in : ℕ → Told
row_in k = row_of (form_in k)

-- of every word: a header leads one term
unfoldable pub arity_in : ℕ → ℕ → ℕ
arity_in k p = cond (ltb k 64) (operands_of (form_in k) p) (cond (ltb k field_kind) (script_operands k p) 1)

-- ---- words
-- the kind that an operator's word begins
unfoldable pub operator_kind : Operator → ℕ
operator_kind (Operator.bare o) = src_kind o
operator_kind (naming c) = src_kind (c this)
operator_kind Operator.let_in = 11
operator_kind Operator.future = 12
operator_kind fn = 65
operator_kind when = 67
operator_kind (Operator.literal k) = kind_number k

-- every reserved word with a kind: an operator's is that of its word, of null, `this` and the three headers that of theirs
unfoldable pub keywords : List (Bytes × ℕ)
keywords = map (λ o. (spelling o, operator_kind o)) operators ++ ((null_word, 1) ∷ (this_word, 6) ∷ (def_word, 130) ∷ (field_word, field_kind) ∷ (method_word, 192) ∷ [])

unfoldable pub word_at : List (Bytes × ℕ) → ℕ → Bytes
word_at [] k = []
word_at (r ∷ rs) k = cond (eqb r.1 k) r.0 (word_at rs k)

-- the word of a kind
unfoldable pub word_in : ℕ → Bytes
word_in k = word_at keywords k

unfoldable pub kind_of : List (Bytes × ℕ) → Bytes → ℕ
kind_of [] w = 0
kind_of (r ∷ rs) w = cond (same_bytes r.0 w) r.1 (kind_of rs w)

-- the kind of a reserved word, 0 of any other
unfoldable pub kind_in : Bytes → ℕ
kind_in w = kind_of keywords w

unfoldable pub Kinds : Unit {0}
unfolding kind_number form_kind forms form_at form_in operands_of demand_of script_operands row_of row_in arity_in
Kinds = tt

unfoldable pub Words : Unit {0}
unfolding Keywords kind_number operator_kind keywords word_at word_in kind_of
Words = tt
