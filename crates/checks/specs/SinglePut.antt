-- That names are single in the trees of a script is that they are in the script. By induction on the script. Assumes nothing.
use Rattle.std.specs.Prelude.{ℕ, ◌+◌, ◌*◌, ◌/◌, ◌%◌, ◌≤◌, ◌<◌, ◌≡◌, refl, Bool, true, false, ◌&&◌, not, List, [], ◌∷◌, map, eqb, length}
use Rattle.std.proofs.Common.{sym, ap, ◌∙◌, arith, lt-ltb, ne_eqb}
use Rattle.std.proofs.Math.Bool.{and-true, and_assoc}
use Rattle.atlite.specs.Base.{member, distinct, distinct_by}
use Rattle.atlite.specs.Term.{Kind, same_signature}
use Rattle.atlite.specs.Scope.{single, single_all, single_fields, single_methods, field_names, signatures}
use Rattle.atlite.specs.Table.{count_fields, count_methods, Grammatical, GrammaticalAll, GrammaticalFields, GrammaticalMethods}
use Rattle.atlite.specs.Script.{SrcOp, Src, num, null, var, op, let_in, future, fn, when, literal, Srcs, nil, cons, SrcFields, no_field, field, SrcMethods, no_method, method, count_srcs}
use Rattle.layout.specs.Numbers.{field_kind}
use Rattle.layout_laws.specs.PackLaws.{Each}
use Rattle.layout_laws.specs.Signatures.{signed, Below}
use Rattle.layout_laws.proofs.Signatures.{signed-distinct}
use Rattle.layout_laws.specs.LastThree.{distinct_from, from-none, kept, kept_fresh}
use Rattle.layout.specs.Terms.{kind_number}
use Rattle.layout.specs.Tables.{src_kind}
use Rattle.words.specs.Wide.{wide_kinds, wide, pair, wide_params, wide_method, wide_payload, wide_limit, wide_signed, wide_params_at}
use Rattle.checks.specs.Names.{Name, named, all_named}
use Rattle.checks.specs.Operators.{op-passed}
use Rattle.checks.specs.Trees.{Forest, empty, tree, put, put_all, put_fields, put_methods}
use Rattle.checks.specs.TreeFits.{kind-wide, payload-wide}
use Rattle.checks.specs.Single.{own_by, own, noted, sing}
use Rattle.checks.specs.SingleNames.{Small, noted-kept, apart-params}

own-wide : (k p n : ℕ) → k < wide_kinds → own (wide k p) n ≡ own_by k p n
unfolding own
own-wide k p n h = rw (kind-wide k p h, payload-wide k p h)

noted-wide : (k p n : ℕ) → k < field_kind → noted (wide k p) n ≡ n
unfolding noted
noted-wide k p n h = let l : k < wide_kinds = omega arith in rw (kind-wide k p l, lt-ltb k field_kind h)

pub sing-none : sing empty 0 ≡ true
unfolding sing
sing-none = refl

no_more : (n : ℕ) → sing empty n ≡ true
unfolding sing
no_more n = refl

-- an expression's word, which lists o, with operands that list A and C
node : (k p n : ℕ) (a c r : Forest) (o A C : Bool) → k < field_kind → own_by k p n ≡ o → sing a 0 ≡ A → sing c 0 ≡ C → sing (tree (wide k p) a c r) n ≡ (o && (A && C)) && sing r n
unfolding sing
node k p n a c r o A C h e x y =
    let l : k < wide_kinds = omega arith in
    rw (own-wide k p n l, e, noted-wide k p n h, x, y) (sym (and_assoc o (A && C) (sing r n) ∙ ap (λ b. o && b) (and_assoc A C (sing r n))))

-- a word with no list of its own, and operands of the first kind, of the second, of both
first : (k p n : ℕ) (a r : Forest) (A : Bool) → k < field_kind → own_by k p n ≡ true → sing a 0 ≡ A → sing (tree (wide k p) a empty r) n ≡ A && sing r n
first k p n a r A h e x = node k p n a empty r true A true h e x sing-none ∙ ap (λ b. b && sing r n) (and-true A)

second : (k p n : ℕ) (c r : Forest) (C : Bool) → k < field_kind → own_by k p n ≡ true → sing c 0 ≡ C → sing (tree (wide k p) empty c r) n ≡ C && sing r n
second k p n c r C h e y = node k p n empty c r true true C h e sing-none y

both : (k p n : ℕ) (a c r : Forest) (A C : Bool) → k < field_kind → own_by k p n ≡ true → sing a 0 ≡ A → sing c 0 ≡ C → sing (tree (wide k p) a c r) n ≡ (A && C) && sing r n
both k p n a c r A C h e x y = node k p n a c r true A C h e x y

leaf : (k p n : ℕ) (r : Forest) → k < field_kind → own_by k p n ≡ true → sing (tree (wide k p) empty empty r) n ≡ sing r n
leaf k p n r h e = node k p n empty empty r true true true h e sing-none sing-none

one : (f : Forest) (A : Bool) → sing f 0 ≡ A && sing empty 0 → sing f 0 ≡ A
one f A e = e ∙ ap (λ b. A && b) sing-none ∙ and-true A

-- an operator has no list of names
op-own : (o : SrcOp) (n p : ℕ) → own_by (src_kind o) p n ≡ true
op-own o n p = let s = op-passed o in rw (ne_eqb (src_kind o) 12 s.no_future, ne_eqb (src_kind o) field_kind (λ e. omega (arith, s.below)), ne_eqb (src_kind o) 192 (λ e. omega (arith, s.below)))

-- ---- lists of names
small : (w m : ℕ) → w ≤ 4000 → Name w m → m < wide_limit
small w m l h = omega (arith, h.below)

methods-small : (w : ℕ) (ms : SrcMethods) → w ≤ 4000 → GrammaticalMethods w ms → Each (Below wide_limit) (signatures ms)
unfolding Grammatical signatures
methods-small w no_method l g = tt
methods-small w (method m xs e ms) l g = (small w m l (named w m g.0), methods-small w ms l g.4)

future-own : (w x y n : ℕ) → w ≤ 4000 → Name w x → Name w y → own_by 12 (pair x y) n ≡ not (eqb x y)
future-own w x y n l hx hy =
    let h = small w x l hx in
    let i = small w y l hy in
    let a : pair x y % wide_limit ≡ x = omega arith in
    let b : pair x y / wide_limit ≡ y = omega arith in
    let c : y % wide_limit ≡ y = omega arith in
    rw (a, b, c)

field-turn : (a b d s : Bool) → a && (b && (true && (d && s))) ≡ (a && d) && (b && s)
field-turn true true d s = refl
field-turn true false true s = refl
field-turn true false false s = refl
field-turn false b d s = refl

method-turn : (a x b d s : Bool) → (a && x) && (true && (b && (d && s))) ≡ (a && d) && (x && b && s)
method-turn true true true d s = refl
method-turn true true false true s = refl
method-turn true true false false s = refl
method-turn true false b true s = refl
method-turn true false b false s = refl
method-turn false x b d s = refl

a-field : (w f : ℕ) (ns : List ℕ) (a r : Forest) (A D S : Bool) → w ≤ 4000 → Name w f → length ns ≤ 3 → Each Small ns → sing a 0 ≡ A → sing r (kept wide_signed (f ∷ ns)) ≡ D && S
    → sing (tree (wide field_kind f) a empty r) (kept wide_signed ns) ≡ (not (member f ns) && D) && (A && S)
unfolding sing
a-field w f ns a r A D S l hf ln hn x y =
    let m : f % wide_signed ≡ f = omega (arith, hf.below) in
    let o : own (wide field_kind f) (kept wide_signed ns) ≡ not (member f ns) = own-wide field_kind f (kept wide_signed ns) (omega arith) ∙ rw m (kept_fresh wide_signed (omega arith) ns f (omega (arith, hf.above)) ln hn) in
    rw (o, noted-kept field_kind f f ns (omega arith) (omega arith) ln hn m, x, y) (field-turn (not (member f ns)) A D S)

-- a method's signature as a number
abbrev sign : ℕ → List ℕ → ℕ
sign m xs = signed wide_limit (m, length xs)

a-method : (w m : ℕ) (xs ns : List ℕ) (c r : Forest) (C D S : Bool) → w ≤ 4000 → Name w m → length xs ≤ 3 → Each (Name w) xs → length ns ≤ 3 → Each Small ns → sing c 0 ≡ C → sing r (kept wide_signed (sign m xs ∷ ns)) ≡ D && S
    → sing (tree (wide_method m xs) empty c r) (kept wide_signed ns) ≡ (not (member (sign m xs) ns) && D) && (distinct xs && C && S)
unfolding sing wide_method
a-method w m xs ns c r C D S l hm lx hx ln hn y z =
    let e : pair m (length xs + 4 * wide_params xs) % wide_signed ≡ sign m xs = omega (arith, hm.below) in
    let q : pair m (length xs + 4 * wide_params xs) / wide_params_at ≡ wide_params xs = omega (arith, hm.below) in
    let o : own (wide 192 (pair m (length xs + 4 * wide_params xs))) (kept wide_signed ns) ≡ not (member (sign m xs) ns) && distinct xs
    = own-wide 192 (pair m (length xs + 4 * wide_params xs)) (kept wide_signed ns) (omega arith) ∙ rw (e, q, kept_fresh wide_signed (omega arith) ns (sign m xs) (omega (arith, hm.above)) ln hn, apart-params w xs l lx hx) in
    rw (o, noted-kept 192 (pair m (length xs + 4 * wide_params xs)) (sign m xs) ns (omega arith) (omega arith) ln hn e, y, z) (method-turn (not (member (sign m xs) ns)) (distinct xs) C D S)

literal-turn : (f m s t r : Bool) → (f && s) && (m && t) && r ≡ (f && m && s && t) && r
literal-turn true true s t r = refl
literal-turn true false true t r = refl
literal-turn true false false t r = refl
literal-turn false m s t r = refl

a-literal : (k : Kind) (p n : ℕ) (a c r : Forest) (A C : Bool) → sing a 0 ≡ A → sing c 0 ≡ C → sing (tree (wide (kind_number k) p) a c r) n ≡ (A && C) && sing r n
unfolding kind_number
a-literal Kind.object p n a c r A C x y = both 15 p n a c r A C (omega arith) refl x y
a-literal Kind.isolate p n a c r A C x y = both 16 p n a c r A C (omega arith) refl x y
a-literal Kind.actor p n a c r A C x y = both 17 p n a c r A C (omega arith) refl x y

mutual
  unfolding put Grammatical single count_fields count_methods field_names signatures distinct_from kept

  pub sing-put : (e : Src) (r : Forest) (n w : ℕ) → w ≤ 4000 → Grammatical w e → sing (put e r) n ≡ single e && sing r n
  sing-put null r n w l g = leaf 1 0 n r (omega arith) refl
  sing-put (num k) r n w l g = leaf 2 k n r (omega arith) refl
  sing-put (var x) r n w l g = leaf 6 x n r (omega arith) refl
  sing-put (op o es) r n w l g = first (src_kind o) _ n _ r _ (op-passed o).below (op-own o n (wide_payload o (count_srcs es))) (one _ (single_all es) (sing-all es w l g.1))
  sing-put (let_in x a b) r n w l g = both 11 x n _ _ r _ _ (omega arith) refl (one _ (single a) (sing-put a empty 0 w l g.1)) (one _ (single b) (sing-put b empty 0 w l g.2))
  sing-put (future x y e) r n w l g =
      node 12 (pair x y) n empty _ r (not (eqb x y)) true (single e) (omega arith) (future-own w x y n l (named w x g.0) (named w y g.1)) sing-none (one _ (single e) (sing-put e empty 0 w l g.2))
  sing-put (literal k fs ms) r n w l g =
      a-literal k _ n _ _ r _ _ (sing-fields fs [] w l (omega (arith, g.0)) tt g.1) (sing-methods ms [] w l (omega (arith, g.2)) tt g.3)
      ∙ rw (from-none (field_names fs), from-none (map (signed wide_limit) (signatures ms)), signed-distinct wide_limit (signatures ms) (methods-small w ms l g.3))
      (literal-turn (distinct (field_names fs)) (distinct_by same_signature (signatures ms)) (single_fields fs) (single_methods ms) (sing r n))
  sing-put (fn x e) r n w l g = second 65 x n _ r _ (omega arith) refl (one _ (single e) (sing-put e empty 0 w l g.1))
  sing-put (when a x b) r n w l g = both 67 x n _ _ r _ _ (omega arith) refl (one _ (single a) (sing-put a empty 0 w l g.0)) (one _ (single b) (sing-put b empty 0 w l g.2))

  sing-all : (es : Srcs) (w : ℕ) → w ≤ 4000 → GrammaticalAll w es → sing (put_all es empty) 0 ≡ single_all es && sing empty 0
  sing-all nil w l g = refl
  sing-all (cons e es) w l g = sing-put e (put_all es empty) 0 w l g.0 ∙ ap (λ b. single e && b) (sing-all es w l g.1) ∙ sym (and_assoc (single e) (single_all es) (sing empty 0))

  sing-fields : (fs : SrcFields) (ns : List ℕ) (w : ℕ) → w ≤ 4000 → length ns + count_fields fs ≤ 4 → Each Small ns → GrammaticalFields w fs
      → sing (put_fields fs empty) (kept wide_signed ns) ≡ distinct_from ns (field_names fs) && single_fields fs
  sing-fields no_field ns w l k h g = no_more (kept wide_signed ns)
  sing-fields (field f e fs) ns w l k h g =
      a-field w f ns _ _ (single e) (distinct_from (f ∷ ns) (field_names fs)) (single_fields fs) l (named w f g.0) (omega arith) h (one _ (single e) (sing-put e empty 0 w l g.1))
      (sing-fields fs (f ∷ ns) w l (omega arith) (omega (arith, small w f l (named w f g.0)), h) g.2)

  sing-methods : (ms : SrcMethods) (ns : List ℕ) (w : ℕ) → w ≤ 4000 → length ns + count_methods ms ≤ 4 → Each Small ns → GrammaticalMethods w ms
      → sing (put_methods ms empty) (kept wide_signed ns) ≡ distinct_from ns (map (signed wide_limit) (signatures ms)) && single_methods ms
  sing-methods no_method ns w l k h g = no_more (kept wide_signed ns)
  sing-methods (method m xs e ms) ns w l k h g =
      a-method w m xs ns _ _ (single e) (distinct_from (sign m xs ∷ ns) (map (signed wide_limit) (signatures ms))) (single_methods ms) l (named w m g.0) g.1 (all_named w xs g.2) (omega arith) h
      (one _ (single e) (sing-put e empty 0 w l g.3)) (sing-methods ms (sign m xs ∷ ns) w l (omega arith) (omega (arith, small w m l (named w m g.0), g.1), h) g.4)
