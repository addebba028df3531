-- What makes a state, by any condition H on the signatures of a list of methods, so that a request that changes the condition can state which states
-- there were. Assumes nothing.
use Rattle.std.specs.Prelude.{ℕ, ◌≤◌, ◌<◌, ◌≡◌, Bool, true, ◌&&◌, not, List, [], ◌∷◌, ◌++◌, length, eqb}
use Rattle.atlite.specs.Base.{member}
use Rattle.atlite.specs.Term.{this, Value, Term, val, var, op, let_in, literal, Terms, nil, cons, Inits, no_field, Methods, no_method, method, count_terms, init_names, Signature, signatures, seen}
use Rattle.atlite.specs.State.{Entity, object, future, resolver, Actor, State, is_future, is_isolate, field_names}
use Rattle.atlite.specs.Limits.{full, within_limits}
use Rattle.atlite.specs.Valid.{AllOf, Each, is_variable, fields_named, methods_named, parameters, operable, words_hold, MayHold, Held, Arrived, HeldBy, FieldsHeld, IsEntity}

-- ---- what makes a state, by a condition on lists of methods
module _ (H : ℕ → List Signature → Type 0) where
  abbrev mutual
    pub WellFormedBy : Term → ℕ → (Value → Type 0) → List ℕ → Type 0
    WellFormedBy (val v) w P xs = P v
    WellFormedBy (var x) w P xs = member x xs ≡ true
    WellFormedBy (op o es) w P xs = (operable w o (count_terms es) ≡ true) × WellFormedAllBy es w P xs
    WellFormedBy (let_in x e d) w P xs = (is_variable w x ≡ true) × WellFormedBy e w P xs × WellFormedBy d w P (x ∷ xs)
    WellFormedBy (Term.future x y e) w P xs = ((is_variable w x && is_variable w y && not (eqb x y)) ≡ true) × WellFormedBy e w P (x ∷ y ∷ xs)
    WellFormedBy (literal k fs ms) w P xs =
        (fields_named w (init_names fs) ≡ true) × H w (signatures ms)
        × WellFormedInitsBy fs w (Held k P) (this ∷ seen k xs) × WellFormedMethodsBy ms w (Held k P) (this ∷ seen k xs)

    pub WellFormedAllBy : Terms → ℕ → (Value → Type 0) → List ℕ → Type 0
    WellFormedAllBy nil w P xs = Unit {0}
    WellFormedAllBy (cons e es) w P xs = WellFormedBy e w P xs × WellFormedAllBy es w P xs

    pub WellFormedInitsBy : Inits → ℕ → (Value → Type 0) → List ℕ → Type 0
    WellFormedInitsBy no_field w P xs = Unit {0}
    WellFormedInitsBy (Inits.field f e fs) w P xs = WellFormedBy e w P xs × WellFormedInitsBy fs w P xs

    pub WellFormedMethodsBy : Methods → ℕ → (Value → Type 0) → List ℕ → Type 0
    WellFormedMethodsBy no_method w P xs = Unit {0}
    WellFormedMethodsBy (method m ys e ms) w P xs = (parameters w ys ≡ true) × WellFormedBy e w P (ys ++ xs) × WellFormedMethodsBy ms w P xs

  abbrev pub IsEntityBy : ℕ → (Value → Type 0) → (Value → Bool) → ℕ → ℕ → Entity → Type 0
  IsEntityBy w P φ a n (object t F M) =
      (fields_named w (field_names F) ≡ true) × FieldsHeld P F × H w (signatures M) × WellFormedMethodsBy M w (HeldBy t P) (this ∷ [])
  IsEntityBy w P φ a n (future v q) = IsEntity w P φ a n (future v q)
  IsEntityBy w P φ a n (resolver k) = IsEntity w P φ a n (resolver k)

  pub record IsActorBy (w : ℕ) (P : Value → Type 0) (φ : Value → Bool) (a : ℕ) (A : Actor) : Type 0 where
    pub made : Each (IsEntityBy w P φ a) A.made
    pub copied : Each (λ n o. (is_isolate o ≡ true) × IsEntityBy w P φ a n o) A.copied
    pub inbox : AllOf (Arrived w P a) A.inbox
    pub expr : WellFormedBy A.expr w P []

  pub record IsStateBy (σ : State) : Type 0 where
    pub few : length σ.words ≤ 64
    pub words : words_hold σ.words ≡ true
    pub started : 0 < length σ.actors
    pub limits : within_limits full σ.actors ≡ true
    pub actors : Each (λ a A. IsActorBy (length σ.words) (MayHold σ a) (is_future σ) a A) σ.actors

-- ---- the present condition
abbrev pub Present : ℕ → List Signature → Type 0
Present w l = methods_named w l ≡ true
