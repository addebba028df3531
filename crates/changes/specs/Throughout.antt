-- Terms of which something holds however deep: Q of each operator, L of the signatures of each literal's methods. The redex has it too, and no
-- substitution and no term that a rule or an abbreviation forms loses it, where Q and L allow what those bring in. A request states by it which
-- terms it left as they were. Assumes nothing.
use Rattle.std.specs.Prelude.{ℕ, eqb, if◌then◌else◌}
use mathlib.Core.List.{List, [], ◌∷◌}
use Rattle.std.proofs.Math.ListN.{length}
use Rattle.atlite.specs.Base.{member}
use Rattle.atlite_laws.specs.Facts.{Every, holds, nothing, every-if}
use Rattle.atlite.specs.Term.{this, ·t, ·r, ·x, Value, null, Name, plain, two_way, resolve, register, Op, set, call, send, Term, val, var, op, let_in, future, literal, Terms, nil, cons, Inits, no_field, field, Methods, no_method, method, two, Signature, same_signature, signatures, values, is_value, value_of}
use Rattle.atlite.specs.Subst.{subst, subst_all, subst_inits, subst_methods, subst_params, enters}
use Rattle.atlite.specs.Redex.{ready, redex, redex_among, plug, plug_among}
use Rattle.atlite.specs.State.{Message, message}
use Rattle.atlite_laws.specs.Closures.{closure, function_with, resolving_with, two-way}
use Rattle.atlite.specs.Rules.{says_no, choice, updates, invoke, forward, forward_all}
use Rattle.atlite.specs.Move.{init_of, last_of, process}
use Rattle.invariant.specs.Terms.{chosen, methods-named}

-- what rules and abbreviations bring in: updates of fields, calls, sends, and functions, which are objects with one method
pub record Allows (Q : Op Name → Type 0) (L : List Signature → Type 0) : Type 0 where
  pub sets : (f : ℕ) → Q (set f)
  pub calls : (m : Name) → Q (call m)
  pub sends : (m : Name) → Q (send m)
  pub function : (s : Signature) → L (s ∷ [])

-- where nothing is asked of operators, and where nothing is asked of lists of methods
abbrev pub AnyOperator : Op Name → Type 0
AnyOperator o = Unit {0}

abbrev pub AnyMethods : List Signature → Type 0
AnyMethods l = Unit {0}

module _ (Q : Op Name → Type 0) (L : List Signature → Type 0) where
  abbrev mutual
    pub Throughout : Term → Type 0
    Throughout (val v) = Unit {0}
    Throughout (var x) = Unit {0}
    Throughout (op o es) = Q o × ThroughoutAll es
    Throughout (let_in x e d) = Throughout e × Throughout d
    Throughout (future x y e) = Throughout e
    Throughout (literal k fs ms) = ThroughoutInits fs × (L (signatures ms) × ThroughoutBodies ms)

    pub ThroughoutAll : Terms → Type 0
    ThroughoutAll nil = Unit {0}
    ThroughoutAll (cons e es) = Throughout e × ThroughoutAll es

    pub ThroughoutInits : Inits → Type 0
    ThroughoutInits no_field = Unit {0}
    ThroughoutInits (field f e fs) = Throughout e × ThroughoutInits fs

    pub ThroughoutBodies : Methods → Type 0
    ThroughoutBodies no_method = Unit {0}
    ThroughoutBodies (method m xs e ms) = Throughout e × ThroughoutBodies ms

  -- a list of methods, of a literal or of an entity
  abbrev pub ThroughoutMethods : Methods → Type 0
  ThroughoutMethods M = L (signatures M) × ThroughoutBodies M

  -- ---- the redex
  mutual
    unfolding redex

    pub redex-throughout : (e : Term) → Throughout e → Throughout (redex e)
    redex-throughout (val v) h = tt
    redex-throughout (var x) h = tt
    redex-throughout (op o es) h = chosen Throughout (ready o es) (λ _. h) (λ _. redex-among es h.1)
    redex-throughout (let_in x e d) h = chosen Throughout (is_value e) (λ _. h) (λ _. redex-throughout e h.0)
    redex-throughout (future x y e) h = h
    redex-throughout (literal k fs ms) h = h

    redex-among : (es : Terms) → ThroughoutAll es → Throughout (redex_among es)
    redex-among nil h = tt
    redex-among (cons e es) h = chosen Throughout (is_value e) (λ _. redex-among es h.1) (λ _. redex-throughout e h.0)

  -- ---- a term in the redex's place, and for a word
  mutual
    unfolding plug

    pub plug-throughout : (t e : Term) → Throughout t → Throughout e → Throughout (plug t e)
    plug-throughout t (val v) z h = z
    plug-throughout t (var x) z h = z
    plug-throughout t (op o es) z h = chosen Throughout (ready o es) (λ _. z) (λ _. (h.0, plug-among t es z h.1))
    plug-throughout t (let_in x e d) z h = chosen Throughout (is_value e) (λ _. z) (λ _. (plug-throughout t e z h.0, h.1))
    plug-throughout t (future x y e) z h = z
    plug-throughout t (literal k fs ms) z h = z

    plug-among : (t : Term) (es : Terms) → Throughout t → ThroughoutAll es → ThroughoutAll (plug_among t es)
    plug-among t nil z h = tt
    plug-among t (cons e es) z h = chosen ThroughoutAll (is_value e) (λ _. (h.0, plug-among t es z h.1)) (λ _. (plug-throughout t e z h.0, h.1))

  mutual
    unfolding subst

    pub subst-throughout : (x : ℕ) (u e : Term) → Throughout u → Throughout e → Throughout (subst x u e)
    subst-throughout x u (val w) z h = tt
    subst-throughout x u (var y) z h = chosen Throughout (eqb x y) (λ _. z) (λ _. tt)
    subst-throughout x u (op o es) z h = (h.0, subst-all x u es z h.1)
    subst-throughout x u (let_in y e d) z h = (subst-throughout x u e z h.0, chosen Throughout (eqb x y) (λ _. h.1) (λ _. subst-throughout x u d z h.1))
    subst-throughout x u (future y w e) z h =
        chosen Throughout (eqb x y) (λ _. h) (λ _. chosen Throughout (eqb x w) (λ _. h) (λ _. subst-throughout x u e z h))
    subst-throughout x u (literal k fs ms) z h = chosen Throughout (enters x k)
        (λ _. (subst-inits x u fs z h.0, (rw (methods-named ms x u) h.1.0, subst-bodies x u ms z h.1.1))) (λ _. h)

    subst-all : (x : ℕ) (u : Term) (es : Terms) → Throughout u → ThroughoutAll es → ThroughoutAll (subst_all x u es)
    subst-all x u nil z h = tt
    subst-all x u (cons e es) z h = (subst-throughout x u e z h.0, subst-all x u es z h.1)

    subst-inits : (x : ℕ) (u : Term) (fs : Inits) → Throughout u → ThroughoutInits fs → ThroughoutInits (subst_inits x u fs)
    subst-inits x u no_field z h = tt
    subst-inits x u (field f e fs) z h = (subst-throughout x u e z h.0, subst-inits x u fs z h.1)

    subst-bodies : (x : ℕ) (u : Term) (ms : Methods) → Throughout u → ThroughoutBodies ms → ThroughoutBodies (subst_methods x u ms)
    subst-bodies x u no_method z h = tt
    subst-bodies x u (method m ys e ms) z h =
        (chosen Throughout (member x ys) (λ _. h.0) (λ _. subst-throughout x u e z h.0), subst-bodies x u ms z h.1)

  -- the values of a method's parameters
  params-throughout : (xs : List ℕ) (vs : List Value) (e : Term) → Throughout e → Throughout (subst_params xs vs e)
  unfolding subst_params
  params-throughout [] vs e h = h
  params-throughout (x ∷ xs) [] e h = h
  params-throughout (x ∷ xs) (v ∷ vs) e h = params-throughout xs vs (subst x (val v) e) (subst-throughout x (val v) e tt h)

  -- ---- the terms that rules take from others: a method's body with its arguments, and the part of a choice
  pub invoke-throughout : (M : Methods) (m : ℕ) (v : Value) (vs : List Value) → ThroughoutBodies M → Every Throughout (invoke M m v vs)
  unfolding invoke
  invoke-throughout no_method m v vs h = nothing
  invoke-throughout (method k xs e M) m v vs h = every-if (same_signature (k, length xs) (m, length vs))
      (λ _. holds (subst-throughout this (val v) (subst_params xs vs e) tt (params-throughout xs vs e h.0)))
      (λ _. invoke-throughout M m v vs h.1)

  pub choice-throughout : (es : Terms) → ThroughoutAll es → Every Throughout (choice es)
  unfolding choice
  choice-throughout nil h = nothing
  choice-throughout (cons c nil) h = nothing
  choice-throughout (cons c (cons d nil)) h = nothing
  choice-throughout (cons c (cons d (cons e nil))) h = holds (chosen Throughout (says_no (value_of c)) {x = e} {y = d} (λ _. h.1.1.0) (λ _. h.1.0))
  choice-throughout (cons c (cons d (cons e (cons x es)))) h = nothing

  values-throughout : (vs : List Value) → ThroughoutAll (values vs)
  unfolding values
  values-throughout [] = tt
  values-throughout (v ∷ vs) = (tt, values-throughout vs)

  -- ---- the terms that rules form
  module _ (K : Allows Q L) where
    -- messages sent on
    pub forward-throughout : (v : Value) (m : Name) (vs : List Value) → Throughout (forward v m vs)
    unfolding forward
    forward-throughout v (plain m) vs = (K.sends _, values-throughout (v ∷ vs))
    forward-throughout v (two_way m) vs = (K.sends _, values-throughout (v ∷ vs))
    forward-throughout v resolve vs = (K.sends _, values-throughout (v ∷ vs))
    forward-throughout v register [] = tt
    forward-throughout v register (l ∷ vs) = (K.sends _, (tt, (tt, tt)))

    pub forward-all-throughout : (v : Value) (q : List Message) → Throughout (forward_all v q)
    unfolding forward_all
    forward-all-throughout v [] = tt
    forward-all-throughout v (message r m vs ∷ q) = (forward-throughout v m vs, forward-all-throughout v q)

    -- the abbreviations fn and resolve
    pub function-throughout : (z : Term) (x : ℕ) (e : Term) → Throughout z → Throughout e → Throughout (function_with z x e)
    unfolding function_with closure signatures
    function-throughout z x e hz h = (hz, (tt, (K.function _, (subst-throughout this (var ·t) e tt h, tt))))

    pub resolving-throughout : (z e d : Term) → Throughout z → Throughout e → Throughout d → Throughout (resolving_with z e d)
    unfolding resolving_with function_with closure subst
    resolving-throughout z e d hz he hd =
        (he, (function-throughout z ·x (op (send resolve) (two (var ·r) (var ·x))) hz (K.sends _, (tt, (tt, tt))), (K.sends _, (hd, (tt, tt)))))

    -- a message that is taken
    pub process-throughout : (v : Value) (m : Name) (vs : List Value) → Throughout (process v m vs)
    unfolding process
    process-throughout v (plain m) vs = (K.calls _, values-throughout (v ∷ vs))
    process-throughout v (two_way m) vs = rw (two-way v m vs) (resolving-throughout (val null) (val (last_of vs)) _ tt tt (K.calls _, values-throughout (v ∷ init_of vs)))
    process-throughout v resolve vs = (K.calls _, values-throughout (v ∷ vs))
    process-throughout v register vs = forward-throughout v register vs

    -- the updates of the fields of a new entity
    pub updates-throughout : (r : Value) (fs : Inits) → ThroughoutInits fs → Throughout (updates r fs)
    unfolding updates
    updates-throughout r no_field h = tt
    updates-throughout r (field f e fs) h = ((K.sets _, (tt, (subst-throughout this (val r) e tt h.0, tt))), updates-throughout r fs h.1)
