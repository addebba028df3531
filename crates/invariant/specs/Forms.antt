-- The forms that an expansion brings in are well formed: what is said of them serves the rule of take, which brings in a resolve,
-- and loading, which brings in all. Assumes nothing.
use Rattle.std.specs.Prelude.{◌≡◌, List, [], ◌∷◌, ℕ, ◌+◌, ◌<◌, if◌then◌else◌}
use Rattle.std.proofs.Math.Path.{refl}
use Rattle.std.proofs.Math.Bool.{true}
use Rattle.std.proofs.Common.{arith, lt-ltb}
use Rattle.atlite.specs.Base.{member, all, any, distinct_by}
use Rattle.atlite.specs.Term.{this, ·t, ·r, ·l, ·x, apply, Value, plain, resolve, send, Term, var, op, two, count_terms, init_names, signatures, seen}
use Rattle.atlite.specs.Subst.{subst}
use Rattle.atlite_laws.specs.Closures.{closure, function_with, resolving_with}
use Rattle.atlite.specs.Valid.{is_name, is_variable, few_distinct, fields_named, methods_named, parameters, sendable, WellFormed}
use Rattle.invariant.specs.Terms.{put, sub-skip}

-- hidden words may be bound, and `apply` is a name
pub hidden : (w k : ℕ) → 0 < k → k < 8 → is_variable w k ≡ true
unfolding is_variable
hidden w k l h = rw (lt-ltb 0 k l) (lt-ltb k (8 + w) (omega arith))

pub apply-name : (w : ℕ) → is_name w apply ≡ true
unfolding is_name
apply-name w = lt-ltb 7 (8 + w) (omega arith)

pub one-method : (w k : ℕ) → methods_named w ((apply, k) ∷ []) ≡ true
unfolding few_distinct distinct_by any all
one-method w k = rw (apply-name w)

pub no-field : (w : ℕ) → fields_named w [] ≡ true
unfolding few_distinct distinct_by all
no-field w = refl

pub one-parameter : (w x : ℕ) → is_variable w x ≡ true → parameters w (x ∷ []) ≡ true
unfolding few_distinct distinct_by any all
one-parameter w x h = rw h

pub apply-sendable : (w : ℕ) → sendable w (plain apply) 1 ≡ true
unfolding sendable
apply-sendable w = rw (apply-name w)

module _ (w : ℕ) (P : Value → Type 0) where
  -- what stands for `this` around a function is bound as .t, and the body is an object's method
  pub function-wf : (zs : List ℕ) (z : Term) (x : ℕ) (e : Term) → is_variable w x ≡ true → WellFormed z w P zs
      → WellFormed e w P (x ∷ this ∷ ·t ∷ zs) → WellFormed (function_with z x e) w P zs
  unfolding function_with closure seen init_names signatures any
  function-wf zs z x e hx hz h =
      let vs = x ∷ this ∷ ·t ∷ zs in
      let u : member ·t vs ≡ true = sub-skip x (this ∷ ·t ∷ zs) ·t refl in
      (hidden w ·t (omega arith) (omega arith), hz, (no-field w, one-method w 1, tt, (one-parameter w x hx, put e w P this (var ·t) vs vs u (λ z _ k. k) h, tt)))

  pub resolving-wf : (zs : List ℕ) (z e d : Term) → WellFormed z w P (·r ∷ zs) → WellFormed e w P zs → WellFormed d w P (·l ∷ ·r ∷ zs)
      → WellFormed (resolving_with z e d) w P zs
  unfolding resolving_with function_with closure subst sendable count_terms any
  resolving-wf zs z e d hz h k =
      let b = function-wf (·r ∷ zs) z ·x (op (send resolve) (two (var ·r) (var ·x))) (hidden w ·x (omega arith) (omega arith)) hz (refl, (refl, (refl, tt))) in
      (hidden w ·r (omega arith) (omega arith), h, (hidden w ·l (omega arith) (omega arith), b, (refl, (k, (refl, tt)))))
