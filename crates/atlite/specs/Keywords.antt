-- The words that the grammar keeps for itself. Assumes nothing.
--
-- Document 01, "Script text", the operator words and the five others. Each is spelled once: reader, printer and listing take it from here.
use Rattle.std.specs.Prelude.{ℕ, List, [], ◌∷◌, ◌++◌, map}
use Rattle.atlite.specs.Base.{bytes}
use Rattle.atlite.specs.Term.{this, Op, plus, percent, same, choose, get, set, call, send, written, Kind}
use Rattle.atlite.specs.Script.{SrcOp, kept, ask, resolve, seq}

unfoldable pub op_word : {N : Type 0} → Op N → List ℕ
op_word plus = bytes "plus"
op_word percent = bytes "percent"
op_word same = bytes "same"
op_word choose = bytes "if"
op_word (get f) = bytes "get"
op_word (set f) = bytes "set"
op_word (call m) = bytes "call"
op_word (send m) = bytes "send"

unfoldable pub src_word : SrcOp → List ℕ
src_word (kept o) = op_word (written o)
src_word (ask m) = bytes "ask"
src_word resolve = bytes "resolve"
src_word seq = bytes "seq"

unfoldable pub print_kind : Kind → List ℕ
print_kind Kind.object = bytes "object"
print_kind Kind.isolate = bytes "isolate"
print_kind Kind.actor = bytes "actor"

-- the other words, of forms that bind or have parts
abbrev pub let_word : List ℕ
let_word = bytes "let"

abbrev pub future_word : List ℕ
future_word = bytes "future"

abbrev pub fn_word : List ℕ
fn_word = bytes "fn"

abbrev pub when_word : List ℕ
when_word = bytes "when"

abbrev pub null_word : List ℕ
null_word = bytes "null"

abbrev pub this_word : List ℕ
this_word = bytes "this"

abbrev pub def_word : List ℕ
def_word = bytes "def"

abbrev pub field_word : List ℕ
field_word = bytes "field"

abbrev pub method_word : List ℕ
method_word = bytes "method"

-- What an operator's word begins: operands alone; an operand, a name, and the other operands; or the parts of a form of its own.
pub data Operator : Type 0 where
  bare : SrcOp → Operator
  naming : (ℕ → SrcOp) → Operator
  let_in future fn when : Operator
  literal : Kind → Operator

-- the operators, in the grammar's order, and then those that requests brought
unfoldable pub operators : List Operator
operators =
    bare (kept plus) ∷ bare (kept percent) ∷ naming (λ f. kept (get f)) ∷ naming (λ f. kept (set f)) ∷ naming (λ m. kept (call m))
    ∷ naming (λ m. kept (send m)) ∷ naming ask ∷ let_in ∷ future ∷ fn ∷ bare resolve ∷ when ∷ bare seq
    ∷ literal Kind.object ∷ literal Kind.isolate ∷ literal Kind.actor
    ∷ bare (kept choose) ∷ bare (kept same) ∷ []

-- an operator's word, whatever it names
unfoldable pub spelling : Operator → List ℕ
spelling (bare o) = src_word o
spelling (naming c) = src_word (c this)
spelling let_in = let_word
spelling future = future_word
spelling fn = fn_word
spelling when = when_word
spelling (literal k) = print_kind k

unfoldable pub reserved : List (List ℕ)
reserved = map spelling operators ++ (null_word ∷ this_word ∷ def_word ∷ field_word ∷ method_word ∷ [])

unfoldable pub Keywords : Unit {0}
unfolding op_word src_word print_kind operators spelling reserved
Keywords = tt
