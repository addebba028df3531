-- The tests of terms, and of lists, say what the propositions say. Assumes nothing.
use Rattle.std.specs.Prelude.{◌≡◌, refl, Bool, true, ◌&&◌, not, List, [], ◌∷◌, ◌++◌, ℕ, eqb}
use Rattle.atlite.specs.Base.{all}
use Rattle.atlite.specs.Term.{this, Value, Kind, object, isolate, actor, Term, val, var, op, let_in, future, literal, Terms, nil, cons, Inits, no_field, field, Methods, no_method, method, count_terms, init_names, signatures, seen}
use Rattle.atlite.specs.Valid.{is_variable, operable, fields_named, methods_named, parameters, AllOf, Held, WellFormed, WellFormedAll, WellFormedInits, WellFormedMethods}
use Rattle.decoding.specs.ValidTest.{held, well_formed, well_formed_all, well_formed_inits, well_formed_methods}
use Rattle.atlite_laws.specs.Facts.{and₂, and₃, and₄, both₂, both₃, both₄}
use Rattle.invariant.specs.Terms.{wider_inits, wider_methods}

-- p as a proposition
abbrev pub Is : {X : Type 0} → (X → Bool) → X → Type 0
Is p x = p x ≡ true

held_to : (k : Kind) (p : Value → Bool) (v : Value) → held k p v ≡ true → Held k (Is p) v
unfolding held
held_to object p v h = h
held_to isolate p v h = h
held_to actor p v h = h

held-from : (k : Kind) (p : Value → Bool) (v : Value) → Held k (Is p) v → held k p v ≡ true
unfolding held
held-from object p v h = h
held-from isolate p v h = h
held-from actor p v h = h

mutual
  unfolding well_formed

  pub wf-to : (e : Term) (w : ℕ) (p : Value → Bool) (xs : List ℕ) → well_formed w p xs e ≡ true → WellFormed e w (Is p) xs
  wf-to (val v) w p xs h = h
  wf-to (var x) w p xs h = h
  wf-to (op o es) w p xs h = let r = and₂ (operable w o (count_terms es)) (well_formed_all w p xs es) h in (r.0, all-to es w p xs r.1)
  wf-to (let_in x e d) w p xs h = let r = and₃ (is_variable w x) (well_formed w p xs e) (well_formed w p (x ∷ xs) d) h in (r.0, wf-to e w p xs r.1, wf-to d w p (x ∷ xs) r.2)
  wf-to (future x y e) w p xs h = let r = and₂ (is_variable w x && is_variable w y && not (eqb x y)) (well_formed w p (x ∷ y ∷ xs) e) h in (r.0, wf-to e w p (x ∷ y ∷ xs) r.1)
  wf-to (literal k fs ms) w p xs h =
      let ys = this ∷ seen k xs in
      let r = and₄ (fields_named w (init_names fs)) (methods_named w (signatures ms)) (well_formed_inits w (held k p) ys fs) (well_formed_methods w (held k p) ys ms) h in (
        r.0,
        r.1,
        wider_inits fs w (Is (held k p)) (Held k (Is p)) ys ys (held_to k p) (λ z i. i) (inits-to fs w (held k p) ys r.2),
        wider_methods ms w (Is (held k p)) (Held k (Is p)) ys ys (held_to k p) (λ z i. i) (methods-to ms w (held k p) ys r.3),
      )

  all-to : (es : Terms) (w : ℕ) (p : Value → Bool) (xs : List ℕ) → well_formed_all w p xs es ≡ true → WellFormedAll es w (Is p) xs
  all-to nil w p xs h = tt
  all-to (cons e es) w p xs h = let r = and₂ (well_formed w p xs e) (well_formed_all w p xs es) h in (wf-to e w p xs r.0, all-to es w p xs r.1)

  inits-to : (fs : Inits) (w : ℕ) (p : Value → Bool) (xs : List ℕ) → well_formed_inits w p xs fs ≡ true → WellFormedInits fs w (Is p) xs
  inits-to no_field w p xs h = tt
  inits-to (field f e fs) w p xs h = let r = and₂ (well_formed w p xs e) (well_formed_inits w p xs fs) h in (wf-to e w p xs r.0, inits-to fs w p xs r.1)

  pub methods-to : (ms : Methods) (w : ℕ) (p : Value → Bool) (xs : List ℕ) → well_formed_methods w p xs ms ≡ true → WellFormedMethods ms w (Is p) xs
  methods-to no_method w p xs h = tt
  methods-to (method m ys e ms) w p xs h =
      let r = and₃ (parameters w ys) (well_formed w p (ys ++ xs) e) (well_formed_methods w p xs ms) h in (r.0, wf-to e w p (ys ++ xs) r.1, methods-to ms w p xs r.2)

mutual
  unfolding well_formed

  pub wf-from : (e : Term) (w : ℕ) (p : Value → Bool) (xs : List ℕ) → WellFormed e w (Is p) xs → well_formed w p xs e ≡ true
  wf-from (val v) w p xs h = h
  wf-from (var x) w p xs h = h
  wf-from (op o es) w p xs h = both₂ h.0 (all_from es w p xs h.1)
  wf-from (let_in x e d) w p xs h = both₃ h.0 (wf-from e w p xs h.1) (wf-from d w p (x ∷ xs) h.2)
  wf-from (future x y e) w p xs h = both₂ h.0 (wf-from e w p (x ∷ y ∷ xs) h.1)
  wf-from (literal k fs ms) w p xs h =
      let ys = this ∷ seen k xs in
      both₄ h.0 h.1 (inits-from fs w (held k p) ys (wider_inits fs w (Held k (Is p)) (Is (held k p)) ys ys (held-from k p) (λ z i. i) h.2))
      (methods-from ms w (held k p) ys (wider_methods ms w (Held k (Is p)) (Is (held k p)) ys ys (held-from k p) (λ z i. i) h.3))

  all_from : (es : Terms) (w : ℕ) (p : Value → Bool) (xs : List ℕ) → WellFormedAll es w (Is p) xs → well_formed_all w p xs es ≡ true
  all_from nil w p xs h = refl
  all_from (cons e es) w p xs h = both₂ (wf-from e w p xs h.0) (all_from es w p xs h.1)

  inits-from : (fs : Inits) (w : ℕ) (p : Value → Bool) (xs : List ℕ) → WellFormedInits fs w (Is p) xs → well_formed_inits w p xs fs ≡ true
  inits-from no_field w p xs h = refl
  inits-from (field f e fs) w p xs h = both₂ (wf-from e w p xs h.0) (inits-from fs w p xs h.1)

  pub methods-from : (ms : Methods) (w : ℕ) (p : Value → Bool) (xs : List ℕ) → WellFormedMethods ms w (Is p) xs → well_formed_methods w p xs ms ≡ true
  methods-from no_method w p xs h = refl
  methods-from (method m ys e ms) w p xs h = both₃ h.0 (wf-from e w p (ys ++ xs) h.1) (methods-from ms w p xs h.2)

pub all-is : {X : Type 0} (p : X → Bool) (Q : X → Type 0) → ((x : X) → p x ≡ true → Q x) → (l : List X) → all p l ≡ true → AllOf Q l
unfolding all
all-is p Q f [] h = tt
all-is p Q f (x ∷ l) h = let r = and₂ (p x) (all p l) h in (f x r.0, all-is p Q f l r.1)

pub is_all : {X : Type 0} (p : X → Bool) (Q : X → Type 0) → ((x : X) → Q x → p x ≡ true) → (l : List X) → AllOf Q l → all p l ≡ true
unfolding all
is_all p Q f [] h = refl
is_all p Q f (x ∷ l) h = both₂ (f x h.0) (is_all p Q f l h.1)
