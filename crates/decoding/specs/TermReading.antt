-- The terms that words are. Assumes nothing; nothing here need be believed.
use Rattle.std.specs.Prelude.{ℕ, zero, suc, ◌/◌, ◌%◌, List, [], ◌∷◌, drop, get_or}
use Rattle.atlite.specs.Term.{Series, made, copied, Value, null, num, ref, Name, plain, two_way, resolve, register, Op, call, send, written, Kind, Term, val, var, op, let_in, future, literal, Terms, nil, cons, Inits, no_field, Methods, no_method, method}
use Rattle.layout.specs.Numbers.{payload, name_limit, tag_limit, number_limit, digit_limit}
use Rattle.decoding.specs.Kinds.{Kinds, Form, nothing, null_value, number, reference, variable, bare, on_field, calls, sends, form_in}
use Rattle.decoding.specs.Reading.{Item, alone, expr_of, field_of, method_of, gather, first, stack}

abbrev pub terms_in : ℕ → List (Item Term) → Terms
terms_in n s = gather (expr_of cons) nil n s

abbrev pub inits_in : ℕ → List (Item Term) → Inits
inits_in n s = gather (field_of Inits.field) no_field n s

abbrev pub methods_in : ℕ → List (Item Term) → Methods
methods_in n s = gather (method_of method) no_method n s

abbrev pub series_in : ℕ → Series
series_in zero = made
series_in (suc n) = copied

abbrev pub name_in : ℕ → ℕ → Name
name_in zero n = plain n
name_in (suc zero) n = two_way n
name_in (suc (suc zero)) n = resolve
name_in (suc (suc (suc k))) n = register

abbrev pub ref_in : ℕ → Value
ref_in p = ref (p / number_limit / 2) (series_in (p / number_limit % 2)) (p % number_limit)

abbrev pub none : Term
none = val null

abbrev pub op_in : Op Name → ℕ → List (Item Term) → List (Item Term)
op_in o n s = alone (op o (terms_in n s)) ∷ drop n s

abbrev pub asked_in : (Name → Op Name) → ℕ → List (Item Term) → List (Item Term)
asked_in f p s = op_in (f (name_in (p / name_limit % tag_limit) (p % name_limit))) (suc (p / name_limit / tag_limit)) s

abbrev pub literal_in : Kind → ℕ → List (Item Term) → List (Item Term)
literal_in k p s = alone (literal k (inits_in (p % digit_limit) s) (methods_in (p / digit_limit) (drop (p % digit_limit) s))) ∷ drop (p / digit_limit) (drop (p % digit_limit) s)

-- what the stack becomes, by the node's form
unfoldable pub on_terms : Form → ℕ → List (Item Term) → List (Item Term)
on_terms nothing p s = s
on_terms null_value p s = alone (val null) ∷ s
on_terms number p s = alone (val (num p)) ∷ s
on_terms reference p s = alone (val (ref_in p)) ∷ s
on_terms variable p s = alone (var p) ∷ s
on_terms (bare o n e) p s = op_in (written o) n s
on_terms (on_field c k n e) p s = op_in (written (c p)) n s
on_terms Form.let_in p s = alone (let_in p (first none s) (first none (drop 1 s))) ∷ drop 2 s
on_terms Form.future p s = alone (future (p % name_limit) (p / name_limit) (first none s)) ∷ drop 1 s
on_terms calls p s = asked_in call p s
on_terms sends p s = asked_in send p s
on_terms (Form.literal k) p s = literal_in k p s

unfoldable pub term_form : ℕ → ℕ → List (Item Term) → List (Item Term)
term_form k p s = on_terms (form_in k) p s

abbrev pub term_stack : List ℕ → List (Item Term)
term_stack w = stack none term_form w

unfoldable pub term_at : List ℕ → Term
term_at w = first none (term_stack w)

unfoldable pub decode_value : ℕ → Value
decode_value w = get_or (null ∷ null ∷ num (w % payload) ∷ ref_in (w % payload) ∷ []) (w / payload) null

unfoldable pub TermReading : Unit {0}
unfolding Kinds on_terms term_form term_at decode_value
TermReading = tt
