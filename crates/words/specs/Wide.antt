-- The scratch form of a script: a word of 64 bits for each node and header, in the order of a table's words. Assumes nothing.
--
-- A text of 4,096 bytes may have far more words than a table has names for, and the reader has to tell causes 2, 3 and 4 of it all
-- the same. So it first puts a script into words that are wide enough for any such text, checks those, and narrows them to the words
-- of a table in the end. A wide word is its kind, the same number as in a table, and a payload of names of 12 bits; a method's header
-- has kind 192. This is no part of what a caller has to believe: a table is `encode_table` of crate `layout`.
use Rattle.std.specs.Prelude.{ℕ, ◌+◌, ◌*◌, List, [], ◌∷◌, ◌++◌, length}
use Rattle.atlite.specs.Script.{SrcOp, src_shape, Src, num, null, var, op, let_in, future, fn, when, literal, Srcs, nil, cons, SrcFields, no_field, field, SrcMethods, no_method, method, Line, expression, define, count_srcs}
use Rattle.atlite.specs.Table.{count_fields, count_methods}
use Rattle.layout.specs.Numbers.{field_kind, digit_limit}
use Rattle.layout.specs.Pack.{flat}
use Rattle.layout.specs.Terms.{label_number, kind_number}
use Rattle.layout.specs.Tables.{src_kind}

-- kinds are below it
abbrev pub wide_kinds : ℕ
wide_kinds = 256

abbrev pub wide : ℕ → ℕ → ℕ
wide k p = k + wide_kinds * p

-- names are below it
abbrev pub wide_limit : ℕ
wide_limit = 4096

-- two names, or a name and a count
abbrev pub pair : ℕ → ℕ → ℕ
pair x y = x + wide_limit * y

-- where the third of three names stands, and what three of them are below
abbrev pub wide_third : ℕ
wide_third = wide_limit * wide_limit

abbrev pub wide_names : ℕ
wide_names = wide_third * wide_limit

-- signatures are below it: a name, and behind it a number of parameters. Behind its signature a method has its parameters.
abbrev pub wide_signed : ℕ
wide_signed = wide_limit * 4

abbrev pub wide_params_at : ℕ
wide_params_at = wide_signed

-- up to three parameters, an empty place 0
unfoldable pub wide_params : List ℕ → ℕ
wide_params [] = 0
wide_params (x ∷ xs) = pair x (wide_params xs)

-- name, number of parameters, parameters
unfoldable pub wide_method : ℕ → List ℕ → ℕ
wide_method m xs = wide 192 (pair m (length xs + 4 * wide_params xs))

-- what an operator with n operands names
unfoldable pub wide_payload : SrcOp → ℕ → ℕ
wide_payload o n = label_number pair (src_shape o) n

unfoldable mutual
  pub wide_src : Src → List ℕ
  wide_src null = wide 1 0 ∷ []
  wide_src (num n) = wide 2 n ∷ []
  wide_src (var x) = wide 6 x ∷ []
  wide_src (op o es) = wide (src_kind o) (wide_payload o (count_srcs es)) ∷ wide_srcs es
  wide_src (let_in x e d) = wide 11 x ∷ (wide_src e ++ wide_src d)
  wide_src (future x y e) = wide 12 (pair x y) ∷ wide_src e
  wide_src (literal k fs ms) = wide (kind_number k) (count_fields fs + digit_limit * count_methods ms) ∷ (wide_fields fs ++ wide_methods ms)
  wide_src (fn x e) = wide 65 x ∷ wide_src e
  wide_src (when e x d) = wide 67 x ∷ (wide_src e ++ wide_src d)

  pub wide_srcs : Srcs → List ℕ
  wide_srcs nil = []
  wide_srcs (cons e es) = wide_src e ++ wide_srcs es

  pub wide_fields : SrcFields → List ℕ
  wide_fields no_field = []
  wide_fields (field f e fs) = wide field_kind f ∷ (wide_src e ++ wide_fields fs)

  pub wide_methods : SrcMethods → List ℕ
  wide_methods no_method = []
  wide_methods (method m xs e ms) = wide_method m xs ∷ (wide_src e ++ wide_methods ms)

unfoldable pub wide_line : Line → List ℕ
wide_line (expression e) = wide_src e
wide_line (define x e) = wide 130 x ∷ wide_src e

unfoldable pub wide_lines : List Line → List ℕ
wide_lines ls = flat wide_line ls

unfoldable pub Wide : Unit {0}
unfolding wide_params wide_method wide_payload wide_src wide_line wide_lines
Wide = tt
