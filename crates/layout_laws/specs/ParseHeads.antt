-- What a head says of a word: a term made with it fits, where its parts do, and is laid out as this word and then the parts. Assumes nothing.
use Rattle.std.specs.Prelude.{ℕ, zero, suc, ◌+◌, ◌*◌, ◌<◌, ◌/◌, ◌%◌, ◌≡◌, refl, Bool, true, false, List, [], ◌∷◌, ◌++◌, eqb, ltb}
use Rattle.std.proofs.Math.Path.{sym, ap, ap₂}
use Rattle.std.proofs.Common.{◌∙◌, subst as transp, arith}
use Rattle.std.proofs.Math.Option.{Option, none, some}
use Rattle.std.proofs.Math.Nat.{mod-add-div}
use borrow.Author.Tests.{ltb-true, eqb-true, lt-ltb}
use Rattle.atlite.specs.Term.{Value, null, num, ref, Name, Op, call, send, written, shape, sending, Kind, Term, val, var, op, let_in, future, literal, Terms, Inits, Methods, count_terms}
use Rattle.layout.specs.Numbers.{payload, name_limit, no_name, tag_limit, tagged_limit, number_limit, digit_limit}
use Rattle.layout.specs.Pack.{node}
use Rattle.layout.specs.Terms.{count_inits, count_methods, series_bit, encode_value, tagged, asked, arguments, op_kind, op_payload, kind_number, encode_term, encode_terms, encode_inits, encode_methods}
use Rattle.decoding.specs.Kinds.{Kinds, Bare, Fields, Form, nothing, null_value, number, reference, variable, bare, on_field, calls, sends, form_kind}
use Rattle.layout_laws.specs.KindRows.{by_kind, Row, is_bare, is_field, is_call, is_send, row}
use Rattle.layout_laws.specs.PackLaws.{pack-low, pack-high, NameFits}
use Rattle.layout_laws.specs.TermLaws.{bare-payload, bare-count, field-payload, field-count, ValueFits, NameOk, ShapeFits, OpFits, Fits, FitsAll, FitsInits, FitsMethods}
use Rattle.layout_laws.specs.TermReads.{bit, ref_back, label_small, asked-count}
use Rattle.layout_laws.specs.Parse.{value_in, name_of, Head, no_head, leaf, unary, binary, many, parts, only, value_head, ask_head, ask_in, literal_head, head_of, head_in, head_at}
use Rattle.layout_laws.specs.ParseWords.{Holding, word-node, payload-small, of_node, ValueWord, value_in_lem, NameWord, name-word, name-read}

-- ---- every word's head makes terms that begin with the word
-- a term that fits, with these words
abbrev pub Is : Term → List ℕ → Type 0
Is e xs = Fits e × (encode_term e ≡ xs)

abbrev pub Reads : ℕ → Head → Type 0
Reads x no_head = Unit {0}
Reads x (leaf e) = Is e (x ∷ [])
Reads x (unary f) = (e : Term) → Fits e → Is (f e) (x ∷ encode_term e)
Reads x (binary f) = (e d : Term) → Fits e → Fits d → Is (f e d) (x ∷ (encode_term e ++ encode_term d))
Reads x (many o n) = (es : Terms) → FitsAll es → count_terms es ≡ n → Is (op o es) (x ∷ encode_terms es)
Reads x (parts k n m) = (fs : Inits) (ms : Methods) → FitsInits fs → FitsMethods ms → count_inits fs ≡ n → count_methods ms ≡ m → Is (literal k fs ms) (x ∷ (encode_inits fs ++ encode_methods ms))
