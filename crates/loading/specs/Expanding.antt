-- Expansion and the substitution of `this` in one pass. What stands for `this` in a script depends on the place alone: null outside
-- all literals, .t in the body of a fn, and `this` itself in the parts of a literal, which a substitution does not enter. So each
-- part is expanded once, with what stands for `this` there, and nothing is substituted afterwards. Assumes nothing.
use Rattle.std.specs.Prelude.{ℕ, ◌+◌, ◌≡◌, refl, Bool, true, false, eqb, leb, ltb, if◌then◌else◌}
use Rattle.std.proofs.Common.{sym, ap, ap₂, ◌∙◌, arith, ne_eqb, eqb-true, leb-true}
use Rattle.atlite.specs.Term.{this, ·t, ·f, ·r, ·l, apply, first_word, Value, Name, Kind, object, isolate, actor, register, Term, Terms, nil, cons, Inits, no_field, Methods, no_method, method, seq, one, two, append, call, send, written, val, var, op, let_in, literal, future}
use Rattle.atlite.specs.Subst.{enters, subst, subst_all}
use Rattle.atlite.specs.Script.{SrcOp, kept, ask, resolve, Src, Srcs, SrcFields, SrcMethods}
use Rattle.atlite_laws.specs.Closures.{closure, resolving_with}
use Rattle.atlite.specs.Expansion.{function, asking, of_two, Expansion, expand_op, expand, expand_all, expand_fields, expand_methods}
use Rattle.atlite.specs.Valid.{is_name}
use Rattle.atlite.specs.Table.{Named, Grammatical, GrammaticalAll, GrammaticalFields, GrammaticalMethods}
use Rattle.atlite_laws.specs.Facts.{and₂}

-- ---- what stands for `this`
pub data Self : Type 0 where
  -- outside all literals
  outside : Self
  -- in the body of a fn
  held : Self
  -- in the parts of a literal
  itself : Self

unfoldable pub self_term : Self → Term
self_term outside = val Value.null
self_term held = var ·t
self_term itself = var this

-- ---- expansion
unfoldable pub expand_op_with : SrcOp → Self → Terms → Term
expand_op_with (kept o) s es = op (written o) es
expand_op_with (ask m) s es = asking m es
expand_op_with resolve s es = of_two (resolving_with (self_term s)) es
expand_op_with SrcOp.seq s es = of_two seq es

unfoldable mutual
  pub expand_with : Src → Self → Term
  expand_with (Src.num n) s = val (Value.num n)
  expand_with Src.null s = val Value.null
  expand_with (Src.var x) s = if eqb this x then self_term s else var x
  expand_with (Src.op o es) s = expand_op_with o s (expand_all_with es s)
  expand_with (Src.let_in x e d) s = let_in x (expand_with e s) (expand_with d s)
  expand_with (Src.future x y e) s = future x y (expand_with e s)
  expand_with (Src.fn x e) s = closure (self_term s) x (expand_with e held)
  expand_with (Src.when e x d) s =
      future ·f ·r
      (let_in ·l (closure (self_term s) x (op (call Name.resolve) (two (var ·r) (expand_with d held)))) (seq (op (send register) (two (expand_with e s) (var ·l))) (var ·f)))
  expand_with (Src.literal k fs ms) s = literal k (expand_fields_with fs) (expand_methods_with ms)

  pub expand_all_with : Srcs → Self → Terms
  expand_all_with Srcs.nil s = nil
  expand_all_with (Srcs.cons e es) s = cons (expand_with e s) (expand_all_with es s)

  pub expand_fields_with : SrcFields → Inits
  expand_fields_with SrcFields.no_field = no_field
  expand_fields_with (SrcFields.field f e fs) = Inits.field f (expand_with e itself) (expand_fields_with fs)

  pub expand_methods_with : SrcMethods → Methods
  expand_methods_with SrcMethods.no_method = no_method
  expand_methods_with (SrcMethods.method m xs e ms) = method m xs (expand_with e itself) (expand_methods_with ms)

-- ---- `this` put for itself changes nothing
same-either : {A : Type 0} (b : Bool) (x y z : A) → x ≡ z → y ≡ z → (if b then x else y) ≡ z
same-either true x y z p q = p
same-either false x y z p q = q

same-variable : (y : ℕ) → (if eqb this y then var this else var y) ≡ var y
same-variable y = go (eqb this y) refl
  where
    go : (b : Bool) → eqb this y ≡ b → (if b then var this else var y) ≡ var y
    go true e = ap var (eqb-true this y e)
    go false e = refl

not_entered : (k : Kind) → enters this k ≡ false
unfolding enters
not_entered object = refl
not_entered isolate = refl
not_entered actor = refl

literal-kept : (v : Term) (k : Kind) (fs : Inits) (ms : Methods) → subst this v (literal k fs ms) ≡ literal k fs ms
unfolding subst
literal-kept v k fs ms = rw (not_entered k)

mutual
  unfolding subst

  this-same : (e : Term) → subst this (var this) e ≡ e
  this-same (val w) = refl
  this-same (var y) = same-variable y
  this-same (op o es) = ap (op o) (all_same es)
  this-same (let_in y e d) = ap₂ (λ a b. let_in y a b) (this-same e) (same-either (eqb this y) _ _ d refl (this-same d))
  this-same (future y z e) = ap (future y z) (same-either (eqb this y) _ _ e refl (same-either (eqb this z) _ _ e refl (this-same e)))
  this-same (literal k fs ms) = literal-kept (var this) k fs ms

  all_same : (es : Terms) → subst_all this (var this) es ≡ es
  all_same nil = refl
  all_same (cons e es) = ap₂ cons (this-same e) (all_same es)

-- ---- a name is not `this`
named_other : (w x : ℕ) → Named w x → eqb this x ≡ false
unfolding is_name
named_other w x g =
    let l = leb-true apply x (and₂ (leb apply x) (ltb x (first_word + w)) g).0 in
    ne_eqb this x (λ e. omega arith)

append-last : (z : Term) (es : Terms) → subst_all this z (append es (one (var ·r))) ≡ append (subst_all this z es) (one (var ·r))
unfolding subst append
append-last z nil = refl
append-last z (cons e es) = ap (cons (subst this z e)) (append-last z es)

closure-this : (z : Term) (x : ℕ) (e d : Term) → subst this (var ·t) e ≡ d → subst this z (function x e) ≡ closure z x d
unfolding function closure subst enters
closure-this z x e d h = ap (closure z x) h

op-this : (o : SrcOp) (es : Terms) (s : Self) → subst this (self_term s) (expand_op o es) ≡ expand_op_with o s (subst_all this (self_term s) es)
unfolding Expansion expand_op_with resolving_with closure subst enters
op-this (kept o) es s = refl
op-this (ask m) es s = rw (append-last (self_term s) es)
op-this resolve nil s = refl
op-this resolve (cons e nil) s = refl
op-this resolve (cons e (cons d es)) s = refl
op-this SrcOp.seq nil s = refl
op-this SrcOp.seq (cons e nil) s = refl
op-this SrcOp.seq (cons e (cons d es)) s = refl

-- ---- `this` put into an expanded script
mutual
  unfolding Expansion expand_with self_term closure subst enters Grammatical

  pub expand-this : (e : Src) (w : ℕ) (s : Self) → Grammatical w e → subst this (self_term s) (expand e) ≡ expand_with e s
  expand-this (Src.num n) w s g = refl
  expand-this Src.null w s g = refl
  expand-this (Src.var x) w s g = refl
  expand-this (Src.op o es) w s g = op-this o (expand_all es) s ∙ ap (expand_op_with o s) (all-this es w s g.1)
  expand-this (Src.let_in x e d) w s g = rw (named_other w x g.0) (ap₂ (λ a b. let_in x a b) (expand-this e w s g.1) (expand-this d w s g.2))
  expand-this (Src.future x y e) w s g = rw (named_other w x g.0, named_other w y g.1) (ap (future x y) (expand-this e w s g.2))
  expand-this (Src.fn x e) w s g = closure-this (self_term s) x (expand e) _ (expand-this e w held g.1)
  expand-this (Src.when e x d) w s g =
      ap₂ (λ y z. future ·f ·r (let_in ·l (closure (self_term s) x (op (call Name.resolve) (two (var ·r) z))) (seq (op (send register) (two y (var ·l))) (var ·f))))
      (expand-this e w s g.0) (expand-this d w held g.2)
  expand-this (Src.literal k fs ms) w s g =
      literal-kept (self_term s) k _ _ ∙ ap₂ (literal k) (fields-this fs w g.1) (methods-this ms w g.3)

  all-this : (es : Srcs) (w : ℕ) (s : Self) → GrammaticalAll w es → subst_all this (self_term s) (expand_all es) ≡ expand_all_with es s
  all-this Srcs.nil w s g = refl
  all-this (Srcs.cons e es) w s g = ap₂ cons (expand-this e w s g.0) (all-this es w s g.1)

  fields-this : (fs : SrcFields) (w : ℕ) → GrammaticalFields w fs → expand_fields fs ≡ expand_fields_with fs
  fields-this SrcFields.no_field w g = refl
  fields-this (SrcFields.field f e fs) w g = ap₂ (Inits.field f) (sym (this-same (expand e)) ∙ expand-this e w itself g.1) (fields-this fs w g.2)

  methods-this : (ms : SrcMethods) (w : ℕ) → GrammaticalMethods w ms → expand_methods ms ≡ expand_methods_with ms
  methods-this SrcMethods.no_method w g = refl
  methods-this (SrcMethods.method m xs e ms) w g =
      ap₂ (method m xs) (sym (this-same (expand e)) ∙ expand-this e w itself g.3) (methods-this ms w g.4)
