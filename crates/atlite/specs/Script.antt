-- A script as it is written. Assumes nothing.
--
-- Document 01, "Script text": the expressions and lines of a script before anything is expanded, their nodes, and the one expression that
-- the lines mean together. Names are word numbers, so a script is read with a dictionary beside it.
use Rattle.std.specs.Prelude.{ℕ, suc, ◌+◌, List, [], ◌∷◌}
use Rattle.atlite.specs.Base.{Result, done, refused, ◌>>=◌}
use Rattle.atlite.specs.Term.{Op, Shape, exactly, sending, shape, Kind}

-- The operators of a script: those that expansion keeps, and abbreviations. fn and when bind a word, so they are forms of their own.
pub data SrcOp : Type 0 where
  kept : Op ℕ → SrcOp
  ask : ℕ → SrcOp
  resolve seq : SrcOp

abbrev pub src_shape : SrcOp → Shape ℕ
src_shape (kept o) = shape o
src_shape (ask m) = sending m
src_shape resolve = exactly 2
src_shape seq = exactly 2

mutual
  pub data Src : Type 0 where
    num : ℕ → Src
    null : Src
    -- a variable, or `this`
    var : ℕ → Src
    op : SrcOp → Srcs → Src
    let_in : ℕ → Src → Src → Src
    future : ℕ → ℕ → Src → Src
    fn : ℕ → Src → Src
    when : Src → ℕ → Src → Src
    literal : Kind → SrcFields → SrcMethods → Src

  pub data Srcs : Type 0 where
    nil : Srcs
    cons : Src → Srcs → Srcs

  pub data SrcFields : Type 0 where
    no_field : SrcFields
    field : ℕ → Src → SrcFields → SrcFields

  pub data SrcMethods : Type 0 where
    no_method : SrcMethods
    method : ℕ → List ℕ → Src → SrcMethods → SrcMethods

-- a line: an expression, or a definition for the lines below it
pub data Line : Type 0 where
  expression : Src → Line
  define : ℕ → Src → Line

unfoldable pub count_srcs : Srcs → ℕ
count_srcs nil = 0
count_srcs (cons e es) = suc (count_srcs es)

-- nodes, counted as in a term
unfoldable mutual
  pub size : Src → ℕ
  size (num n) = 1
  size null = 1
  size (var x) = 1
  size (op o es) = 1 + size_all es
  size (let_in x e d) = 1 + (size e + size d)
  size (future x y e) = 1 + size e
  size (fn x e) = 1 + size e
  size (when e x d) = 1 + (size e + size d)
  size (literal k fs ms) = 1 + (size_fields fs + size_methods ms)

  pub size_all : Srcs → ℕ
  size_all nil = 0
  size_all (cons e es) = size e + size_all es

  pub size_fields : SrcFields → ℕ
  size_fields no_field = 0
  size_fields (field f e fs) = size e + size_fields fs

  pub size_methods : SrcMethods → ℕ
  size_methods no_method = 0
  size_methods (method m xs e ms) = size e + size_methods ms

-- the lines as one expression, a definition as a let around what follows; a script must not end in a definition
unfoldable pub join : List Line → Result Src
join [] = refused 2
join (expression e ∷ []) = done e
join (define x e ∷ []) = refused 2
join (expression e ∷ l ∷ ls) = join (l ∷ ls) >>= λ d. done (op seq (cons e (cons d nil)))
join (define x e ∷ l ∷ ls) = join (l ∷ ls) >>= λ d. done (let_in x e d)

unfoldable pub Script : Unit {0}
unfolding count_srcs size join
Script = tt
