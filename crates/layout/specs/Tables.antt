-- The words of a table: 1,280, of which 256 are the head and 1,024 the lines. Assumes nothing.
-- An expression as read stands as a term does where the form is the same; the forms that only a script has are the kinds
-- from 64 on. A line that defines a word is its expression behind a header, a line that is an expression has none. The lines
-- stand one after another as written, neither joined nor expanded, so that a table prints as the text that it was read from.
use Rattle.std.specs.Prelude.{ℕ, ◌+◌, ◌*◌, List, [], ◌∷◌, ◌++◌, length}
use Rattle.atlite.specs.Term.{plain, written}
use Rattle.atlite.specs.Table.{count_fields, count_methods, Table}
use Rattle.atlite.specs.Script.{SrcOp, kept, ask, resolve, seq, Src, num, null, var, op, let_in, future, fn, when, literal, Srcs, nil, cons, SrcFields, no_field, field, SrcMethods, no_method, method, Line, expression, define, count_srcs}
use Rattle.layout.specs.Numbers.{name_limit, digit_limit, lines_at, lines_size}
use Rattle.layout.specs.Pack.{node, pad, flat}
use Rattle.layout.specs.Terms.{variable, asked, arguments, op_kind, op_payload, kind_number, field_header, method_header}
use Rattle.layout.specs.Layout.{encode_word}

abbrev pub src_kind : SrcOp → ℕ
src_kind (kept o) = op_kind (written o)
src_kind (ask m) = 64
src_kind resolve = 66
src_kind seq = 68

abbrev pub src_payload : SrcOp → ℕ → ℕ
src_payload (kept o) n = op_payload (written o) n
src_payload (ask m) n = asked (plain m) (arguments n)
src_payload resolve n = 0
src_payload seq n = 0

unfoldable mutual
  pub encode_src : Src → List ℕ
  encode_src null = node 1 0 ∷ []
  encode_src (num n) = node 2 n ∷ []
  encode_src (var x) = variable x ∷ []
  encode_src (op o es) = node (src_kind o) (src_payload o (count_srcs es)) ∷ encode_srcs es
  encode_src (let_in x e d) = node 11 x ∷ (encode_src e ++ encode_src d)
  encode_src (future x y e) = node 12 (x + name_limit * y) ∷ encode_src e
  encode_src (literal k fs ms) = node (kind_number k) (count_fields fs + digit_limit * count_methods ms) ∷ (encode_fields fs ++ encode_src_methods ms)
  encode_src (fn x e) = node 65 x ∷ encode_src e
  encode_src (when e x d) = node 67 x ∷ (encode_src e ++ encode_src d)

  pub encode_srcs : Srcs → List ℕ
  encode_srcs nil = []
  encode_srcs (cons e es) = encode_src e ++ encode_srcs es

  pub encode_fields : SrcFields → List ℕ
  encode_fields no_field = []
  encode_fields (field f e fs) = field_header f ∷ (encode_src e ++ encode_fields fs)

  pub encode_src_methods : SrcMethods → List ℕ
  encode_src_methods no_method = []
  encode_src_methods (method m xs e ms) = method_header m xs ∷ (encode_src e ++ encode_src_methods ms)

abbrev pub definition_header : ℕ → ℕ
definition_header x = node 130 x

unfoldable pub encode_line : Line → List ℕ
encode_line (expression e) = encode_src e
encode_line (define x e) = definition_header x ∷ encode_src e

-- numbers of words, of lines and of the lines' words; the dictionary as in a state; the lines
unfoldable pub encode_table : Table → List ℕ
encode_table T =
    pad lines_at (length T.words ∷ length T.lines ∷ length (flat encode_line T.lines) ∷ flat encode_word T.words)
    ++ pad lines_size (flat encode_line T.lines)

unfoldable pub Tables : Unit {0}
unfolding encode_src encode_line encode_table
Tables = tt
