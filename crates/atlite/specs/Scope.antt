-- What is asked of a script that is of the grammar. Assumes nothing.
--
-- Document 01, "Script text", the paragraph on binding, and causes 3 and 4: that variables are bound, and that no list names one thing
-- twice, a method being named by its signature.
use Rattle.std.specs.Prelude.{ℕ, Bool, true, ◌&&◌, not, List, [], ◌∷◌, ◌++◌, length, eqb}
use Rattle.atlite.specs.Base.{member, distinct, distinct_by}
use Rattle.atlite.specs.Term.{this, Signature, same_signature, seen}
use Rattle.atlite.specs.Script.{Src, num, null, var, op, let_in, future, fn, when, literal, Srcs, nil, cons, SrcFields, no_field, field, SrcMethods, no_method, method}

-- Under the words xs every variable is bound; `this` needs no binder.
unfoldable mutual
  pub bound : List ℕ → Src → Bool
  bound xs (num n) = true
  bound xs null = true
  bound xs (var x) = member x (this ∷ xs)
  bound xs (op o es) = bound_all xs es
  bound xs (let_in x e d) = bound xs e && bound (x ∷ xs) d
  bound xs (future x y e) = bound (x ∷ y ∷ xs) e
  bound xs (fn x e) = bound (x ∷ xs) e
  bound xs (when e x d) = bound xs e && bound (x ∷ xs) d
  bound xs (literal k fs ms) = bound_fields (seen k xs) fs && bound_methods (seen k xs) ms

  pub bound_all : List ℕ → Srcs → Bool
  bound_all xs nil = true
  bound_all xs (cons e es) = bound xs e && bound_all xs es

  pub bound_fields : List ℕ → SrcFields → Bool
  bound_fields xs no_field = true
  bound_fields xs (field f e fs) = bound xs e && bound_fields xs fs

  pub bound_methods : List ℕ → SrcMethods → Bool
  bound_methods xs no_method = true
  bound_methods xs (method m ys e ms) = bound (ys ++ xs) e && bound_methods xs ms

unfoldable pub field_names : SrcFields → List ℕ
field_names no_field = []
field_names (field f e fs) = f ∷ field_names fs

unfoldable pub signatures : SrcMethods → List Signature
signatures no_method = []
signatures (method m xs e ms) = (m, length xs) ∷ signatures ms

-- Names are single in each list of fields and parameters and in the pair of a future, and signatures in each list of methods.
unfoldable mutual
  pub single : Src → Bool
  single (num n) = true
  single null = true
  single (var x) = true
  single (op o es) = single_all es
  single (let_in x e d) = single e && single d
  single (future x y e) = not (eqb x y) && single e
  single (fn x e) = single e
  single (when e x d) = single e && single d
  single (literal k fs ms) = distinct (field_names fs) && distinct_by same_signature (signatures ms) && single_fields fs && single_methods ms

  pub single_all : Srcs → Bool
  single_all nil = true
  single_all (cons e es) = single e && single_all es

  pub single_fields : SrcFields → Bool
  single_fields no_field = true
  single_fields (field f e fs) = single e && single_fields fs

  pub single_methods : SrcMethods → Bool
  single_methods no_method = true
  single_methods (method m xs e ms) = distinct xs && single e && single_methods ms

unfoldable pub Scope : Unit {0}
unfolding bound field_names signatures single
Scope = tt
