-- That variables are bound in the trees of a script, under levels that stand for the words in scope, is that they are in the script. By
-- induction on the script. Assumes nothing.
use Rattle.std.specs.Prelude.{ℕ, suc, ◌+◌, ◌*◌, ◌/◌, ◌%◌, ◌≤◌, ◌<◌, ◌≡◌, refl, Bool, true, false, cond, ◌&&◌, eqb, ltb, length, get_or, if◌then◌else◌}
use Rattle.std.proofs.Common.{sym, ap, ◌∙◌, ne_eqb}
use Rattle.std.proofs.Math.Path.{subst}
use Rattle.std.proofs.Math.Bool.{and-true, and_assoc}
use mathlib.Core.List.{List, [], ◌∷◌, ◌++◌}
use native.Mathlib.Omega.{arith}
use Rattle.atlite.specs.Base.{member, any}
use Rattle.atlite.specs.Term.{Kind, seen}
use Rattle.atlite.specs.Scope.{bound, bound_all, bound_fields, bound_methods}
use Rattle.atlite.specs.Table.{Grammatical, GrammaticalAll, GrammaticalFields, GrammaticalMethods}
use Rattle.atlite.specs.Script.{Src, num, null, var, op, let_in, future, fn, when, literal, Srcs, nil, cons, SrcFields, no_field, field, SrcMethods, no_method, method}
use Rattle.layout.specs.Numbers.{field_kind}
use Rattle.layout.specs.Terms.{kind_number}
use Rattle.layout.specs.Tables.{src_kind}
use Rattle.words.specs.Wide.{wide_kinds, wide, pair, wide_params, wide_method, wide_limit, wide_params_at}
use Rattle.checks.specs.Names.{Name, named, variable, all_named}
use Rattle.checks.specs.Operators.{Passed, op-passed}
use Rattle.checks.specs.Trees.{Forest, empty, tree, put, put_all, put_fields, put_methods}
use Rattle.checks.specs.TreeFits.{kind-wide, payload-wide}
use Rattle.checks.specs.Bound.{sees, base_by, base_of, binds_by, binds, bind_all, ok}
use Rattle.checks.specs.Levels.{Levels, hidden, bound_all_lem}

-- ---- one word
sees-wide : (k p b : ℕ) (L : List ℕ) → k < wide_kinds → eqb k 6 ≡ false → sees (wide k p) b L ≡ true
unfolding sees
sees-wide k p b L h e = rw (kind-wide k p h, e)

base-wide : (k p b l : ℕ) → k < wide_kinds → base_of (wide k p) b l ≡ base_by k b l
unfolding base_of
base-wide k p b l h = rw (kind-wide k p h)

binds-wide : (k p : ℕ) → k < wide_kinds → binds (wide k p) ≡ binds_by k p
unfolding binds
binds-wide k p h = rw (kind-wide k p h, payload-wide k p h)

sees-var : (x b l : ℕ) (L xs : List ℕ) → x < wide_limit → Levels L b l xs → sees (wide 6 x) b L ≡ member x (0 ∷ xs)
unfolding sees any
sees-var x b l L xs h v =
    let i : 6 < wide_kinds = omega arith in
    let m : x % wide_limit ≡ x = omega arith in
    rw (kind-wide 6 x i, payload-wide 6 x i, m) (go x v)
  where
    go : (y : ℕ) → Levels L b l xs → cond (eqb y 0) true (ltb b (get_or L y 0)) ≡ (if eqb y 0 then true else member y xs)
    go ℕ.zero v = refl
    go (suc y) v = rw (ne_eqb (suc y) 0 (λ e. omega arith)) (v.right (suc y) (omega arith))

pub ok-none : (L : List ℕ) (b l : ℕ) → ok empty L b l ≡ true
unfolding ok
ok-none L b l = refl

module _ (k p b l : ℕ) (L : List ℕ) (r : Forest) (h : k < wide_kinds) (v : eqb k 6 ≡ false) where
  both : (a c : Forest) (A C : Bool) → ok a L (base_by k b l) l ≡ A → ok c (bind_all L (binds_by k p) (l + 1)) (base_by k b l) (l + 1) ≡ C → ok (tree (wide k p) a c r) L b l ≡ (A && C) && ok r L b l
  unfolding ok
  both a c A C x y = rw (sees-wide k p b L h v, base-wide k p b l h, binds-wide k p h, x, y) (sym (and_assoc A C (ok r L b l)))

  first : (a : Forest) (A : Bool) → ok a L (base_by k b l) l ≡ A → ok (tree (wide k p) a empty r) L b l ≡ A && ok r L b l
  first a A x = both a empty A true x (ok-none _ _ _) ∙ ap (λ t. t && ok r L b l) (and-true A)

  second : (c : Forest) (C : Bool) → ok c (bind_all L (binds_by k p) (l + 1)) (base_by k b l) (l + 1) ≡ C → ok (tree (wide k p) empty c r) L b l ≡ C && ok r L b l
  second c C y = both empty c true C (ok-none _ _ _) y

  leaf : ok (tree (wide k p) empty empty r) L b l ≡ ok r L b l
  leaf = both empty empty true true (ok-none _ _ _) (ok-none _ _ _)

-- the operands of an operator are in its own scope
passed : (k p b l : ℕ) (L : List ℕ) (r : Forest) → Passed k → (a : Forest) (A : Bool) → ok a L b l ≡ A → ok (tree (wide k p) a empty r) L b l ≡ A && ok r L b l
passed k p b l L r s a A x =
    first k p b l L r (omega (arith, s.below)) (ne_eqb k 6 (λ e. omega (arith, s.above))) a A (rw (ne_eqb k 16 s.no_isolate, ne_eqb k 17 s.no_actor) x)

a-variable : (x b l : ℕ) (L xs : List ℕ) (r : Forest) → x < wide_limit → Levels L b l xs → ok (tree (wide 6 x) empty empty r) L b l ≡ member x (0 ∷ xs) && ok r L b l
unfolding ok
a-variable x b l L xs r h v = rw (sees-var x b l L xs h v)

module _ (L : List ℕ) (b l : ℕ) where
  one : (f : Forest) (A : Bool) → ok f L b l ≡ A && ok empty L b l → ok f L b l ≡ A
  one f A e = e ∙ ap (λ t. A && t) (ok-none L b l) ∙ and-true A

-- ---- scopes
module _ (w b l : ℕ) (L xs : List ℕ) (k : w ≤ 4000) (h : Levels L b l xs) where
  bind-one : (x : ℕ) → Name w x → Levels (bind_all L x (l + 1)) b (l + 1) (x ∷ xs)
  unfolding wide_params
  bind-one x n =
      let e : x + wide_limit * 0 ≡ x = omega arith in
      subst (λ i. Levels (bind_all L i (l + 1)) b (l + 1) (x ∷ xs)) e (bound_all_lem w (x ∷ []) L b l xs k (omega arith) (n, tt) h)

  bind-two : (x y : ℕ) → Name w x → Name w y → Levels (bind_all L (pair x y) (l + 1)) b (l + 1) (x ∷ y ∷ xs)
  unfolding wide_params
  bind-two x y n m =
      let e : y + wide_limit * 0 ≡ y = omega arith in
      subst (λ i. Levels (bind_all L (pair x i) (l + 1)) b (l + 1) (x ∷ y ∷ xs)) e (bound_all_lem w (x ∷ y ∷ []) L b l xs k (omega arith) (n, (m, tt)) h)

  bind-none : Levels (bind_all L 0 (l + 1)) b (l + 1) xs
  unfolding wide_params
  bind-none = bound_all_lem w [] L b l xs k (omega arith) tt h

-- inside a literal
inside : (k : Kind) (b l : ℕ) (L xs : List ℕ) → Levels L b l xs → Levels L (base_by (kind_number k) b l) l (seen k xs)
unfolding kind_number seen
inside Kind.object b l L xs h = h
inside Kind.isolate b l L xs h = hidden L b l xs h
inside Kind.actor b l L xs h = hidden L b l xs h

a-literal : (k : Kind) (p b l : ℕ) (L : List ℕ) (a c r : Forest) (A C : Bool) → ok a L (base_by (kind_number k) b l) l ≡ A → ok c (bind_all L 0 (l + 1)) (base_by (kind_number k) b l) (l + 1) ≡ C
    → ok (tree (wide (kind_number k) p) a c r) L b l ≡ (A && C) && ok r L b l
unfolding kind_number
a-literal Kind.object p b l L a c r A C x y = both 15 p b l L r (omega arith) refl a c A C x y
a-literal Kind.isolate p b l L a c r A C x y = both 16 p b l L r (omega arith) refl a c A C x y
a-literal Kind.actor p b l L a c r A C x y = both 17 p b l L r (omega arith) refl a c A C x y

a-method : (w m : ℕ) (ys : List ℕ) (b l : ℕ) (L : List ℕ) (c r : Forest) (C : Bool) → w ≤ 4000 → Name w m → length ys ≤ 3 → ok c (bind_all L (wide_params ys) (l + 1)) b (l + 1) ≡ C → ok (tree (wide_method m ys) empty c r) L b l ≡ C && ok r L b l
unfolding wide_method
a-method w m ys b l L c r C k n i y =
    let q : pair m (length ys + 4 * wide_params ys) / wide_params_at ≡ wide_params ys = omega (arith, n.below) in
    second 192 (pair m (length ys + 4 * wide_params ys)) b l L r (omega arith) refl c C (rw q y)

mutual
  unfolding put Grammatical bound

  pub ok-put : (e : Src) (r : Forest) (L : List ℕ) (b l : ℕ) (xs : List ℕ) (w : ℕ) → w ≤ 4000 → Grammatical w e → Levels L b l xs → ok (put e r) L b l ≡ bound xs e && ok r L b l
  ok-put null r L b l xs w k g h = leaf 1 0 b l L r (omega arith) refl
  ok-put (num n) r L b l xs w k g h = leaf 2 n b l L r (omega arith) refl
  ok-put (var x) r L b l xs w k g h = a-variable x b l L xs r (omega (arith, variable w x g)) h
  ok-put (op o es) r L b l xs w k g h = passed (src_kind o) _ b l L r (op-passed o) _ _ (one L b l _ (bound_all xs es) (ok-all es L b l xs w k g.1 h))
  ok-put (let_in x e d) r L b l xs w k g h =
      both 11 x b l L r (omega arith) refl _ _ _ _ (one L b l _ (bound xs e) (ok-put e empty L b l xs w k g.1 h))
      (one _ b (l + 1) _ (bound (x ∷ xs) d) (ok-put d empty _ b (l + 1) (x ∷ xs) w k g.2 (bind-one w b l L xs k h x (named w x g.0))))
  ok-put (future x y e) r L b l xs w k g h =
      second 12 (pair x y) b l L r (omega arith) refl _ _
      (one _ b (l + 1) _ (bound (x ∷ y ∷ xs) e) (ok-put e empty _ b (l + 1) (x ∷ y ∷ xs) w k g.2 (bind-two w b l L xs k h x y (named w x g.0) (named w y g.1))))
  ok-put (literal t fs ms) r L b l xs w k g h =
      let i = inside t b l L xs h in
      a-literal t _ b l L _ _ r _ _ (ok-fields fs L _ l (seen t xs) w k g.1 i) (ok-methods ms _ _ (l + 1) (seen t xs) w k g.3 (bind-none w _ l L (seen t xs) k i))
  ok-put (fn x e) r L b l xs w k g h =
      second 65 x b l L r (omega arith) refl _ _ (one _ b (l + 1) _ (bound (x ∷ xs) e) (ok-put e empty _ b (l + 1) (x ∷ xs) w k g.1 (bind-one w b l L xs k h x (named w x g.0))))
  ok-put (when e x d) r L b l xs w k g h =
      both 67 x b l L r (omega arith) refl _ _ _ _ (one L b l _ (bound xs e) (ok-put e empty L b l xs w k g.0 h))
      (one _ b (l + 1) _ (bound (x ∷ xs) d) (ok-put d empty _ b (l + 1) (x ∷ xs) w k g.2 (bind-one w b l L xs k h x (named w x g.1))))

  ok-all : (es : Srcs) (L : List ℕ) (b l : ℕ) (xs : List ℕ) (w : ℕ) → w ≤ 4000 → GrammaticalAll w es → Levels L b l xs → ok (put_all es empty) L b l ≡ bound_all xs es && ok empty L b l
  ok-all nil L b l xs w k g h = refl
  ok-all (cons e es) L b l xs w k g h = ok-put e (put_all es empty) L b l xs w k g.0 h ∙ ap (λ t. bound xs e && t) (ok-all es L b l xs w k g.1 h) ∙ sym (and_assoc (bound xs e) (bound_all xs es) (ok empty L b l))

  ok-fields : (fs : SrcFields) (L : List ℕ) (b l : ℕ) (xs : List ℕ) (w : ℕ) → w ≤ 4000 → GrammaticalFields w fs → Levels L b l xs → ok (put_fields fs empty) L b l ≡ bound_fields xs fs
  ok-fields no_field L b l xs w k g h = ok-none L b l
  ok-fields (field f e fs) L b l xs w k g h =
      first field_kind f b l L (put_fields fs empty) (omega arith) refl _ _ (one L b l _ (bound xs e) (ok-put e empty L b l xs w k g.1 h)) ∙ ap (λ t. bound xs e && t) (ok-fields fs L b l xs w k g.2 h)

  ok-methods : (ms : SrcMethods) (L : List ℕ) (b l : ℕ) (xs : List ℕ) (w : ℕ) → w ≤ 4000 → GrammaticalMethods w ms → Levels L b l xs → ok (put_methods ms empty) L b l ≡ bound_methods xs ms
  ok-methods no_method L b l xs w k g h = ok-none L b l
  ok-methods (method m ys e ms) L b l xs w k g h =
      a-method w m ys b l L _ (put_methods ms empty) _ k (named w m g.0) g.1
      (one _ b (l + 1) _ (bound (ys ++ xs) e) (ok-put e empty _ b (l + 1) (ys ++ xs) w k g.3 (bound_all_lem w ys L b l xs k g.1 (all_named w ys g.2) h)))
      ∙ ap (λ t. bound (ys ++ xs) e && t) (ok-methods ms L b l xs w k g.4 h)
