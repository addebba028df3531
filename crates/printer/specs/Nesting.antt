-- How many brackets of an expression lie in one another: what its printing opens at once. So the depth of a table's text bounds
-- the nesting of each of its lines. By induction on the expressions; a text that closes all its brackets only raises the most that
-- were open. Assumes nothing.
use Rattle.std.specs.Prelude.{List, [], ◌∷◌, ℕ, suc, max}
use Rattle.atlite.specs.Script.{Src, num, null, var, op, let_in, future, fn, when, literal, Srcs, nil, cons, SrcFields, no_field, field, SrcMethods, no_method, method, Line, expression, define}

unfoldable mutual
  pub nesting : Src → ℕ
  nesting (num n) = 0
  nesting null = 0
  nesting (var x) = 0
  nesting (op o es) = suc (nesting_all es)
  nesting (let_in x e d) = suc (max (nesting e) (nesting d))
  nesting (future x y e) = suc (nesting e)
  nesting (fn x e) = suc (nesting e)
  nesting (when e x d) = suc (max (nesting e) (nesting d))
  nesting (literal k fs ms) = suc (max (nesting_fields fs) (nesting_methods ms))

  pub nesting_all : Srcs → ℕ
  nesting_all nil = 0
  nesting_all (cons e es) = max (nesting e) (nesting_all es)

  pub nesting_fields : SrcFields → ℕ
  nesting_fields no_field = 0
  nesting_fields (field f e fs) = max (suc (nesting e)) (nesting_fields fs)

  -- the parameters have brackets too
  pub nesting_methods : SrcMethods → ℕ
  nesting_methods no_method = 0
  nesting_methods (method m xs e ms) = max (suc (max 1 (nesting e))) (nesting_methods ms)

unfoldable pub nesting_line : Line → ℕ
nesting_line (expression e) = nesting e
nesting_line (define x e) = suc (nesting e)

unfoldable pub nesting_lines : List Line → ℕ
nesting_lines [] = 0
nesting_lines (l ∷ ls) = max (nesting_line l) (nesting_lines ls)
