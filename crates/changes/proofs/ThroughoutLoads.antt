-- Scripts in which something holds of each operator and of the signatures of each list of methods: such a script begins in a state of which it holds
-- throughout. Assumes nothing.
use Rattle.std.specs.Prelude.{ℕ, ◌≡◌, if◌then◌else◌}
use mathlib.Core.List.{List, [], ◌∷◌}
use Rattle.atlite.specs.Base.{done}
use Rattle.atlite_laws.specs.Facts.{Every, holds, nothing, every-done, every_bind, checked}
use Rattle.atlite.specs.Term.{this, ·r, Value, Name, Op, call, written, Term, val, var, op, Terms, nil, cons, seq, two, append, one, Signature}
use Rattle.atlite.specs.State.{State}
use Rattle.atlite.specs.Script.{SrcOp, kept, ask, resolve, Src, Srcs, SrcFields, SrcMethods, Line, expression, define, join}
use Rattle.atlite.specs.Expansion.{function, asking, resolving, waiting, of_two, expand_op, expand, expand_all, expand_fields, expand_methods}
use Rattle.atlite.specs.Subst.{subst}
use Rattle.atlite_laws.specs.Closures.{closure, function_with, resolving_with}
use Rattle.atlite.specs.Table.{Table}
use Rattle.atlite.specs.Load.{start, load}
use Rattle.atlite.specs.Limits.{within_limits, full}
use Rattle.atlite.specs.Valid.{AllOf}
use Rattle.invariant.specs.ExpandedForms.{methods-expanded}
use Rattle.changes.specs.Throughout.{Allows, Throughout, ThroughoutAll, ThroughoutInits, ThroughoutBodies, subst-throughout, function-throughout, resolving-throughout}
use Rattle.changes.specs.ThroughoutMoves.{ThroughoutState}
use Rattle.changes.specs.ThroughoutLoads.{ThroughoutSrc, ThroughoutSrcs, ThroughoutFields, ThroughoutWritten, ThroughoutLine, ThroughoutTable}

-- ---- W holds of each operator as it is written, L of each list of methods
module _ (W : SrcOp → Type 0) (L : List Signature → Type 0) where
  -- ---- the lines as one script, both ways
  pub join-throughout : W SrcOp.seq → (ls : List Line) → AllOf (ThroughoutLine W L) ls → Every (ThroughoutSrc W L) (join ls)
  unfolding join
  join-throughout w [] h = nothing
  join-throughout w (expression e ∷ []) h = holds h.0
  join-throughout w (define x e ∷ []) h = nothing
  join-throughout w (expression e ∷ l ∷ ls) h = every_bind (join-throughout w (l ∷ ls) h.1) λ d k. holds (w, (h.0, (k, tt)))
  join-throughout w (define x e ∷ l ∷ ls) h = every_bind (join-throughout w (l ∷ ls) h.1) λ d k. holds (h.0, k)

  pub lines-throughout : (ls : List Line) → Every (λ e. ThroughoutSrc W L e → AllOf (ThroughoutLine W L) ls) (join ls)
  unfolding join
  lines-throughout [] = nothing
  lines-throughout (expression e ∷ []) = holds λ h. (h, tt)
  lines-throughout (define x e ∷ []) = nothing
  lines-throughout (expression e ∷ l ∷ ls) = every_bind (lines-throughout (l ∷ ls)) λ d k. holds λ h. (h.1.0, k h.1.1.0)
  lines-throughout (define x e ∷ l ∷ ls) = every_bind (lines-throughout (l ∷ ls)) λ d k. holds λ h. (h.0, k h.1)

-- ---- expansion: an operator that is kept stays allowed, and no abbreviation brings in what is not
module _ (Q : Op Name → Type 0) (L : List Signature → Type 0) (K : Allows Q L) (W : SrcOp → Type 0) (k : (o : Op ℕ) → W (kept o) → Q (written o)) where
  append-throughout : (es ds : Terms) → ThroughoutAll Q L es → ThroughoutAll Q L ds → ThroughoutAll Q L (append es ds)
  unfolding append
  append-throughout nil ds h i = i
  append-throughout (cons e es) ds h i = (h.0, append-throughout es ds h.1 i)

  two-throughout : (f : Term → Term → Term) (es : Terms) → ((e d : Term) → Throughout Q L e → Throughout Q L d → Throughout Q L (f e d))
      → ThroughoutAll Q L es → Throughout Q L (of_two f es)
  unfolding of_two
  two-throughout f nil i h = tt
  two-throughout f (cons e nil) i h = tt
  two-throughout f (cons e (cons d es)) i h = i e d h.0 h.1.0

  op-throughout : (o : SrcOp) (es : Terms) → W o → ThroughoutAll Q L es → Throughout Q L (expand_op o es)
  unfolding expand_op asking resolving function resolving_with closure subst
  op-throughout (kept o) es w h = (k o w, h)
  op-throughout (ask m) es w h = ((K.sends _, append-throughout es (one (var ·r)) h (tt, tt)), tt)
  op-throughout resolve es w h = two-throughout resolving es (λ e d i j. resolving-throughout Q L K (var this) e d tt i j) h
  op-throughout SrcOp.seq es w h = two-throughout seq es (λ e d i j. (i, j)) h

  mutual
    unfolding expand function function_with closure waiting

    expand-throughout : (e : Src) → ThroughoutSrc W L e → Throughout Q L (expand e)
    expand-throughout (Src.num n) h = tt
    expand-throughout Src.null h = tt
    expand-throughout (Src.var x) h = tt
    expand-throughout (Src.op o es) h = op-throughout o (expand_all es) h.0 (expand-all es h.1)
    expand-throughout (Src.let_in x e d) h = (expand-throughout e h.0, expand-throughout d h.1)
    expand-throughout (Src.future x y e) h = expand-throughout e h
    expand-throughout (Src.fn x e) h = function-throughout Q L K (var this) x (expand e) tt (expand-throughout e h)
    expand-throughout (Src.when e x d) h = (
      function-throughout Q L K (var this) x (op (call Name.resolve) (two (var ·r) (expand d))) tt (K.calls _, (tt, (expand-throughout d h.1, tt))),
      ((K.sends _, (expand-throughout e h.0, (tt, tt))), tt),
    )
    expand-throughout (Src.literal k fs ms) h = (expand-fields fs h.0, (rw (methods-expanded ms) h.1.0, expand-bodies ms h.1.1))

    expand-all : (es : Srcs) → ThroughoutSrcs W L es → ThroughoutAll Q L (expand_all es)
    expand-all Srcs.nil h = tt
    expand-all (Srcs.cons e es) h = (expand-throughout e h.0, expand-all es h.1)

    expand-fields : (fs : SrcFields) → ThroughoutFields W L fs → ThroughoutInits Q L (expand_fields fs)
    expand-fields SrcFields.no_field h = tt
    expand-fields (SrcFields.field f e fs) h = (expand-throughout e h.0, expand-fields fs h.1)

    expand-bodies : (ms : SrcMethods) → ThroughoutWritten W L ms → ThroughoutBodies Q L (expand_methods ms)
    expand-bodies SrcMethods.no_method h = tt
    expand-bodies (SrcMethods.method m xs e ms) h = (expand-throughout e h.0, expand-bodies ms h.1)

  -- ---- loading
  loads : W SrcOp.seq → (T : Table) → ThroughoutTable W L T → Every (ThroughoutState Q L) (load T)
  unfolding load start
  loads w T h = every_bind (join-throughout W L w T.lines h) λ e i. checked 16 (within_limits full (start T.words (expand e)).actors) λ _.
      holds (record { made = tt; copied = tt; expr = subst-throughout Q L this (val Value.null) (expand e) tt (expand-throughout e i) }, tt)

  -- A table of which it holds loads to a state of which it holds.
  pub load-throughout : W SrcOp.seq → (T : Table) (σ : State) → ThroughoutTable W L T → load T ≡ done σ → ThroughoutState Q L σ
  load-throughout w T σ h e = every-done (loads w T h) e
