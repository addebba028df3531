-- The trees of a script that is of the grammar have as many operands as their words say. Assumes nothing.
use Rattle.std.specs.Prelude.{ℕ, ◌+◌, ◌*◌, ◌/◌, ◌%◌, ◌≤◌, ◌<◌, ◌≡◌, refl}
use Rattle.std.proofs.Common.{sym, ◌∙◌, arith, ne_eqb}
use Rattle.atlite.specs.Term.{Kind}
use Rattle.atlite.specs.Table.{count_fields, count_methods, Grammatical, GrammaticalAll, GrammaticalFields, GrammaticalMethods}
use Rattle.atlite.specs.Script.{SrcOp, Src, num, null, var, op, let_in, future, fn, when, literal, Srcs, nil, cons, SrcFields, no_field, field, SrcMethods, no_method, method, count_srcs}
use Rattle.layout.specs.Numbers.{field_kind, digit_limit}
use Rattle.decoding.specs.Kinds.{Kinds}
use Rattle.layout.specs.Terms.{kind_number}
use Rattle.layout.specs.Tables.{src_kind}
use Rattle.words.specs.Wide.{wide_kinds, wide, wide_payload, wide_method}
use Rattle.checks.specs.Operators.{op-passed, op-outer}
use Rattle.checks.specs.Trees.{Forest, empty, tree, count, outer_by, inner_by, outer, inner, Fits, put, put_all, put_fields, put_methods, count-put, count-all, count-fields, count-methods}

-- ---- a wide word's kind and payload
pub kind-wide : (k p : ℕ) → k < wide_kinds → wide k p % wide_kinds ≡ k
kind-wide k p h = omega arith

pub payload-wide : (k p : ℕ) → k < wide_kinds → wide k p / wide_kinds ≡ p
payload-wide k p h = omega arith

outer-wide : (k p : ℕ) → k < wide_kinds → outer (wide k p) ≡ outer_by k p
unfolding outer
outer-wide k p h = rw (kind-wide k p h, payload-wide k p h)

inner-wide : (k p : ℕ) → k < wide_kinds → inner (wide k p) ≡ inner_by k p
unfolding inner
inner-wide k p h = rw (kind-wide k p h, payload-wide k p h)

-- ---- how many operands
count-one : (e : Src) → count (put e empty) ≡ 1
unfolding count
count-one e = count-put e empty

count_none : count empty ≡ 0
unfolding count
count_none = refl

-- a word whose operands are as many as its kind and payload say, with all their own
fits : (k p : ℕ) (a c r : Forest) (m n : ℕ) → k < wide_kinds → count a ≡ m → count c ≡ n → m ≡ outer_by k p → n ≡ inner_by k p → Fits a → Fits c → Fits r → Fits (tree (wide k p) a c r)
unfolding Fits
fits k p a c r m n h ca cc' ea ec fa fc fr = (ca ∙ ea ∙ sym (outer-wide k p h), cc' ∙ ec ∙ sym (inner-wide k p h), fa, fc, fr)

pub none : Fits empty
unfolding Fits
none = tt

-- an operator has no operands of the second kind
op-inner : (o : SrcOp) (p : ℕ) → 0 ≡ inner_by (src_kind o) p
op-inner o p =
    let s = op-passed o in
    rw (ne_eqb (src_kind o) 11 s.no_let, ne_eqb (src_kind o) 12 s.no_future, ne_eqb (src_kind o) 15 s.no_object, ne_eqb (src_kind o) 16 s.no_isolate, ne_eqb (src_kind o) 17 s.no_actor, ne_eqb (src_kind o) 65 s.no_fn, ne_eqb (src_kind o) 67 s.no_when, ne_eqb (src_kind o) 192 (λ e. omega (arith, s.below)))

parts : (k : Kind) (f m : ℕ) → f ≤ 4 → m ≤ 4 → (a c r : Forest) → count a ≡ f → count c ≡ m → Fits a → Fits c → Fits r → Fits (tree (wide (kind_number k) (f + digit_limit * m)) a c r)
unfolding kind_number
parts k f m hf hm a c r ca cm fa fc fr =
    let x : f ≡ (f + digit_limit * m) % digit_limit = omega arith in
    let y : m ≡ (f + digit_limit * m) / digit_limit % digit_limit = rw quotient (omega arith) in
    go k x y
  where
    quotient : (f + digit_limit * m) / digit_limit ≡ m
    quotient = omega arith

    go : (k : Kind) → f ≡ (f + digit_limit * m) % digit_limit → m ≡ (f + digit_limit * m) / digit_limit % digit_limit → Fits (tree (wide (kind_number k) (f + digit_limit * m)) a c r)
    go Kind.object x y = fits 15 (f + digit_limit * m) a c r f m (omega arith) ca cm x y fa fc fr
    go Kind.isolate x y = fits 16 (f + digit_limit * m) a c r f m (omega arith) ca cm x y fa fc fr
    go Kind.actor x y = fits 17 (f + digit_limit * m) a c r f m (omega arith) ca cm x y fa fc fr

mutual
  unfolding put Grammatical wide_method Kinds

  pub fits-put : (e : Src) (r : Forest) (w : ℕ) → w ≤ 4000 → Grammatical w e → Fits r → Fits (put e r)
  fits-put null r w l g h = fits 1 0 empty empty r 0 0 (omega arith) count_none count_none refl refl none none h
  fits-put (num n) r w l g h = fits 2 n empty empty r 0 0 (omega arith) count_none count_none refl refl none none h
  fits-put (var x) r w l g h = fits 6 x empty empty r 0 0 (omega arith) count_none count_none refl refl none none h
  fits-put (op o es) r w l g h =
      let n = count_srcs es in
      fits (src_kind o) _ _ empty r n 0 (omega (arith, (op-passed o).below)) (count-all es) count_none (op-outer w l o n g.0) (op-inner o (wide_payload o n)) (fits_all es w l g.1) none h
  fits-put (let_in x a b) r w l g h = fits 11 x _ _ r 1 1 (omega arith) (count-one a) (count-one b) refl refl (fits-put a empty w l g.1 none) (fits-put b empty w l g.2 none) h
  fits-put (future x y e) r w l g h = fits 12 _ empty _ r 0 1 (omega arith) count_none (count-one e) refl refl none (fits-put e empty w l g.2 none) h
  fits-put (literal k fs ms) r w l g h =
      parts k (count_fields fs) (count_methods ms) g.0 g.2 (put_fields fs empty) (put_methods ms empty) r (count-fields fs) (count-methods ms) (fits-fields fs w l g.1) (fits-methods ms w l g.3) h
  fits-put (fn x e) r w l g h = fits 65 x empty _ r 0 1 (omega arith) count_none (count-one e) refl refl none (fits-put e empty w l g.1 none) h
  fits-put (when a x b) r w l g h = fits 67 x _ _ r 1 1 (omega arith) (count-one a) (count-one b) refl refl (fits-put a empty w l g.0 none) (fits-put b empty w l g.2 none) h

  fits_all : (es : Srcs) (w : ℕ) → w ≤ 4000 → GrammaticalAll w es → Fits (put_all es empty)
  fits_all nil w l g = none
  fits_all (cons e es) w l g = fits-put e (put_all es empty) w l g.0 (fits_all es w l g.1)

  fits-fields : (fs : SrcFields) (w : ℕ) → w ≤ 4000 → GrammaticalFields w fs → Fits (put_fields fs empty)
  fits-fields no_field w l g = none
  fits-fields (field f e fs) w l g = fits field_kind f _ empty _ 1 0 (omega arith) (count-one e) count_none refl refl (fits-put e empty w l g.1 none) none (fits-fields fs w l g.2)

  fits-methods : (ms : SrcMethods) (w : ℕ) → w ≤ 4000 → GrammaticalMethods w ms → Fits (put_methods ms empty)
  fits-methods no_method w l g = none
  fits-methods (method m xs e ms) w l g = fits 192 _ empty _ _ 0 1 (omega arith) count_none (count-one e) refl refl none (fits-put e empty w l g.3 none) (fits-methods ms w l g.4)
