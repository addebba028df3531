-- The table that words are. Assumes nothing; nothing here need be believed but `table_of`, and that by its law alone
-- (`table-of-iff` of `TableLaws`, crate `layout_laws`).
-- There is no second test of what a table is: the text of what was read is read again, and the words of that are compared.
use Rattle.std.specs.Prelude.{ℕ, suc, ◌-◌, ◌/◌, ◌%◌, cond, List, [], ◌∷◌, map, drop, get_or, ltb, if◌then◌else◌}
use Rattle.std.proofs.Math.Option.{Option, none, some}
use Rattle.atlite.specs.Base.{Result, done, refused, same_bytes}
use Rattle.atlite.specs.Term.{call, send, Kind}
use Rattle.atlite.specs.Keywords.{operators}
use Rattle.atlite.specs.Table.{text_of, Table, read}
use Rattle.atlite.specs.Script.{SrcOp, kept, ask, resolve, seq, Src, num, null, var, op, let_in, future, fn, when, literal, nil, cons, no_field, field, no_method, method, Line, expression, define}
use Rattle.layout.specs.Numbers.{name_limit, tag_limit, digit_limit, lines_at}
use Rattle.decoding.specs.Kinds.{Form, nothing, null_value, number, reference, variable, bare, on_field, calls, sends, form_in}
use Rattle.decoding.specs.Reading.{cut, Item, alone, a_field, a_definition, a_method, expr_of, field_of, method_of, gather, first, stack}
use Rattle.decoding.specs.Decode.{decode_word}
use Rattle.layout.specs.Tables.{encode_table}

abbrev pub op_in : SrcOp → ℕ → List (Item Src) → List (Item Src)
op_in o n s = alone (op o (gather (expr_of cons) nil n s)) ∷ drop n s

abbrev pub asked_in : (ℕ → SrcOp) → ℕ → List (Item Src) → List (Item Src)
asked_in f p s = op_in (f (p % name_limit)) (suc (p / name_limit / tag_limit)) s

abbrev pub literal_in : Kind → ℕ → List (Item Src) → List (Item Src)
literal_in k p s =
    alone (literal k (gather (field_of field) no_field (p % digit_limit) s) (gather (method_of method) no_method (p / digit_limit) (drop (p % digit_limit) s)))
    ∷ drop (p / digit_limit) (drop (p % digit_limit) s)

abbrev pub two_in : (Src → Src → Src) → List (Item Src) → List (Item Src)
two_in f s = alone (f (first null s) (first null (drop 1 s))) ∷ drop 2 s

-- what the stack becomes, by the node's form
unfoldable pub on_srcs : Form → ℕ → List (Item Src) → List (Item Src)
on_srcs nothing p s = s
on_srcs null_value p s = alone null ∷ s
on_srcs number p s = alone (num p) ∷ s
on_srcs reference p s = s
on_srcs variable p s = alone (var p) ∷ s
on_srcs (bare o n e) p s = op_in (kept o) n s
on_srcs (on_field c k n e) p s = op_in (kept (c p)) n s
on_srcs Form.let_in p s = two_in (let_in p) s
on_srcs Form.future p s = alone (future (p % name_limit) (p / name_limit) (first null s)) ∷ drop 1 s
on_srcs calls p s = asked_in (λ m. kept (call m)) p s
on_srcs sends p s = asked_in (λ m. kept (send m)) p s
on_srcs (Form.literal k) p s = literal_in k p s

unfoldable pub script_forms : ℕ → List (Item Src) → List (List (Item Src))
script_forms p s =
    asked_in ask p s
    ∷ (alone (fn p (first null s)) ∷ drop 1 s)
    ∷ op_in resolve 2 s
    ∷ two_in (λ e d. when e p d) s
    ∷ op_in seq 2 s
    ∷ []

unfoldable pub src_form : ℕ → ℕ → List (Item Src) → List (Item Src)
src_form k p s = cond (ltb k 64) (on_srcs (form_in k) p s) (get_or (script_forms p s) (k - 64) s)

abbrev pub src_stack : List ℕ → List (Item Src)
src_stack w = stack null src_form w

abbrev pub line_in : Item Src → Line
line_in (alone e) = expression e
line_in (a_field f e) = expression e
line_in (a_definition x e) = define x e
line_in (a_method m xs e) = expression e

unfoldable pub decode_table : List ℕ → Table
decode_table w = record { words = cut decode_word 3 (get_or w 0 0) (drop 3 w); lines = map line_in (src_stack (drop lines_at w)) }

-- the table whose words these are: its text is read again, and what was read laid out and compared
unfoldable pub same_table : List ℕ → Result Table → Option Table
same_table w (refused n) = none
same_table w (done T) = if same_bytes (encode_table T) w then some T else none

unfoldable pub table_of : List ℕ → Option Table
table_of w = same_table w (read operators (text_of (decode_table w)))

unfoldable pub TableReading : Unit {0}
unfolding on_srcs script_forms src_form decode_table same_table table_of
TableReading = tt
