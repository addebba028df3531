-- States by any condition H on the signatures of a list of methods: by the present condition it is `IsState`, and what H asks holds of every list of
-- methods of such a state. So a request that changes the condition can state which states there were. Assumes nothing.
use Rattle.std.specs.Prelude.{ℕ, suc, ◌≡◌, refl, Bool, true, ◌&&◌, not, List, [], ◌∷◌, ◌++◌, ◌↔◌, length, eqb}
use Rattle.std.proofs.Common.{ap, ap₂}
use Rattle.std.proofs.Math.Path.{transport, transport⁻¹}
use Rattle.atlite.specs.Term.{this, Value, Name, Op, Term, val, var, op, let_in, literal, Terms, nil, cons, Inits, no_field, Methods, no_method, method, count_terms, init_names, Signature, signatures, seen}
use Rattle.atlite.specs.State.{Entity, object, future, resolver, Actor, State, field_names}
use Rattle.atlite.specs.Valid.{AllOf, Each, is_variable, fields_named, parameters, operable, Held, WellFormed, WellFormedAll, WellFormedInits, WellFormedMethods, HeldBy, FieldsHeld, IsEntity, IsActor, IsState}
use Rattle.changes.specs.Throughout.{AnyOperator, Throughout, ThroughoutAll, ThroughoutInits, ThroughoutBodies}
use Rattle.changes.specs.ThroughoutMoves.{ThroughoutEntity, ThroughoutActor, ThroughoutState}
use Rattle.changes.specs.StateBy.{WellFormedBy, WellFormedAllBy, WellFormedInitsBy, WellFormedMethodsBy, IsEntityBy, IsActorBy, IsStateBy, Present}
use Rattle.changes.proofs.ThroughoutMoves.{all-at}

-- ---- by the present condition it is a state
mutual
  well-now : (e : Term) (w : ℕ) (P : Value → Type 0) (xs : List ℕ) → WellFormedBy Present e w P xs ≡ WellFormed e w P xs
  well-now (val v) w P xs = refl
  well-now (var x) w P xs = refl
  well-now (op o es) w P xs = ap (λ X. (operable w o (count_terms es) ≡ true) × X) (all-now es w P xs)
  well-now (let_in x e d) w P xs = ap₂ (λ X Y. (is_variable w x ≡ true) × X × Y) (well-now e w P xs) (well-now d w P (x ∷ xs))
  well-now (Term.future x y e) w P xs = ap (λ X. ((is_variable w x && is_variable w y && not (eqb x y)) ≡ true) × X) (well-now e w P (x ∷ y ∷ xs))
  well-now (literal k fs ms) w P xs = ap₂ (λ X Y. (fields_named w (init_names fs) ≡ true) × Present w (signatures ms) × X × Y)
      (inits-now fs w (Held k P) (this ∷ seen k xs)) (methods-now ms w (Held k P) (this ∷ seen k xs))

  all-now : (es : Terms) (w : ℕ) (P : Value → Type 0) (xs : List ℕ) → WellFormedAllBy Present es w P xs ≡ WellFormedAll es w P xs
  all-now nil w P xs = refl
  all-now (cons e es) w P xs = ap₂ (λ X Y. X × Y) (well-now e w P xs) (all-now es w P xs)

  inits-now : (fs : Inits) (w : ℕ) (P : Value → Type 0) (xs : List ℕ) → WellFormedInitsBy Present fs w P xs ≡ WellFormedInits fs w P xs
  inits-now no_field w P xs = refl
  inits-now (Inits.field f e fs) w P xs = ap₂ (λ X Y. X × Y) (well-now e w P xs) (inits-now fs w P xs)

  methods-now : (ms : Methods) (w : ℕ) (P : Value → Type 0) (xs : List ℕ) → WellFormedMethodsBy Present ms w P xs ≡ WellFormedMethods ms w P xs
  methods-now no_method w P xs = refl
  methods-now (method m ys e ms) w P xs = ap₂ (λ X Y. (parameters w ys ≡ true) × X × Y) (well-now e w P (ys ++ xs)) (methods-now ms w P xs)

module _ (w : ℕ) (P : Value → Type 0) (φ : Value → Bool) (a : ℕ) where
  entity-now : (n : ℕ) (o : Entity) → IsEntityBy Present w P φ a n o ≡ IsEntity w P φ a n o
  entity-now n (object t F M) = ap (λ X. (fields_named w (field_names F) ≡ true) × FieldsHeld P F × Present w (signatures M) × X) (methods-now M w (HeldBy t P) (this ∷ []))
  entity-now n (future v q) = refl
  entity-now n (resolver k) = refl

  actor-now : (A : Actor) → IsActorBy Present w P φ a A ↔ IsActor w P φ a A
  actor-now A = (
    λ h. record {
      made = λ n o e. transport (entity-now n o) (h.made n o e);
      copied = λ n o e. ((h.copied n o e).0, transport (entity-now n o) (h.copied n o e).1);
      inbox = h.inbox;
      expr = transport (well-now A.expr w P []) h.expr;
    },
    λ h. record {
      made = λ n o e. transport⁻¹ (entity-now n o) (h.made n o e);
      copied = λ n o e. ((h.copied n o e).0, transport⁻¹ (entity-now n o) (h.copied n o e).1);
      inbox = h.inbox;
      expr = transport⁻¹ (well-now A.expr w P []) h.expr;
    },
  )

pub state-now : (σ : State) → IsStateBy Present σ ↔ IsState σ
state-now σ = (
  λ h. record { few = h.few; words = h.words; started = h.started; limits = h.limits; actors = λ a A e. (actor-now _ _ _ a A).0 (h.actors a A e) },
  λ h. record { few = h.few; words = h.words; started = h.started; limits = h.limits; actors = λ a A e. (actor-now _ _ _ a A).1 (h.actors a A e) },
)

-- ---- the condition holds of every list of methods of such a state
each_all : {X : Type 0} (Q : X → Type 0) (l : List X) → Each (λ n x. Q x) l → AllOf Q l
each_all Q [] h = tt
each_all Q (x ∷ l) h = (h 0 x refl, each_all Q l (λ n y e. h (suc n) y e))

module _ (H : ℕ → List Signature → Type 0) (w : ℕ) where
  mutual
    well-throughout : (e : Term) (P : Value → Type 0) (xs : List ℕ) → WellFormedBy H e w P xs → Throughout AnyOperator (H w) e
    well-throughout (val v) P xs h = tt
    well-throughout (var x) P xs h = tt
    well-throughout (op o es) P xs h = (tt, all-throughout es P xs h.1)
    well-throughout (let_in x e d) P xs h = (well-throughout e P xs h.1, well-throughout d P (x ∷ xs) h.2)
    well-throughout (Term.future x y e) P xs h = well-throughout e P (x ∷ y ∷ xs) h.1
    well-throughout (literal k fs ms) P xs h =
        (inits-throughout fs (Held k P) (this ∷ seen k xs) h.2, (h.1, bodies-throughout ms (Held k P) (this ∷ seen k xs) h.3))

    all-throughout : (es : Terms) (P : Value → Type 0) (xs : List ℕ) → WellFormedAllBy H es w P xs → ThroughoutAll AnyOperator (H w) es
    all-throughout nil P xs h = tt
    all-throughout (cons e es) P xs h = (well-throughout e P xs h.0, all-throughout es P xs h.1)

    inits-throughout : (fs : Inits) (P : Value → Type 0) (xs : List ℕ) → WellFormedInitsBy H fs w P xs → ThroughoutInits AnyOperator (H w) fs
    inits-throughout no_field P xs h = tt
    inits-throughout (Inits.field f e fs) P xs h = (well-throughout e P xs h.0, inits-throughout fs P xs h.1)

    bodies-throughout : (ms : Methods) (P : Value → Type 0) (xs : List ℕ) → WellFormedMethodsBy H ms w P xs → ThroughoutBodies AnyOperator (H w) ms
    bodies-throughout no_method P xs h = tt
    bodies-throughout (method m ys e ms) P xs h = (well-throughout e P (ys ++ xs) h.1, bodies-throughout ms P xs h.2)

  entity-throughout : (P : Value → Type 0) (φ : Value → Bool) (a n : ℕ) (o : Entity) → IsEntityBy H w P φ a n o → ThroughoutEntity AnyOperator (H w) o
  entity-throughout P φ a n (object t F M) h = (h.2, bodies-throughout M (HeldBy t P) (this ∷ []) h.3)
  entity-throughout P φ a n (future v q) h = tt
  entity-throughout P φ a n (resolver k) h = tt

pub state-throughout : (H : ℕ → List Signature → Type 0) (σ : State) → IsStateBy H σ → ThroughoutState AnyOperator (H (length σ.words)) σ
state-throughout H σ h = each_all _ σ.actors λ a A e.
    let w = length σ.words in
    let k = h.actors a A e in
    record {
      made = each_all _ A.made (λ n o i. entity-throughout H w _ _ a n o (k.made n o i));
      copied = each_all _ A.copied (λ n o i. entity-throughout H w _ _ a n o (k.copied n o i).1);
      expr = well-throughout H w A.expr _ [] k.expr;
    }

-- ---- a state by H, of whose lists of methods L holds besides, is one by whatever follows from the two
module _ (H K : ℕ → List Signature → Type 0) (Q : Op Name → Type 0) (L : List Signature → Type 0) (w : ℕ) (k : (l : List Signature) → H w l → L l → K w l) where
  mutual
    well-with : (e : Term) (P : Value → Type 0) (xs : List ℕ) → WellFormedBy H e w P xs → Throughout Q L e → WellFormedBy K e w P xs
    well-with (val v) P xs h i = h
    well-with (var x) P xs h i = h
    well-with (op o es) P xs h i = (h.0, all-with es P xs h.1 i.1)
    well-with (let_in x e d) P xs h i = (h.0, well-with e P xs h.1 i.0, well-with d P (x ∷ xs) h.2 i.1)
    well-with (Term.future x y e) P xs h i = (h.0, well-with e P (x ∷ y ∷ xs) h.1 i)
    well-with (literal t fs ms) P xs h i = (
      h.0,
      k (signatures ms) h.1 i.1.0,
      inits-with fs (Held t P) (this ∷ seen t xs) h.2 i.0,
      methods-with ms (Held t P) (this ∷ seen t xs) h.3 i.1.1,
    )

    all-with : (es : Terms) (P : Value → Type 0) (xs : List ℕ) → WellFormedAllBy H es w P xs → ThroughoutAll Q L es → WellFormedAllBy K es w P xs
    all-with nil P xs h i = tt
    all-with (cons e es) P xs h i = (well-with e P xs h.0 i.0, all-with es P xs h.1 i.1)

    inits-with : (fs : Inits) (P : Value → Type 0) (xs : List ℕ) → WellFormedInitsBy H fs w P xs → ThroughoutInits Q L fs → WellFormedInitsBy K fs w P xs
    inits-with no_field P xs h i = tt
    inits-with (Inits.field f e fs) P xs h i = (well-with e P xs h.0 i.0, inits-with fs P xs h.1 i.1)

    methods-with : (ms : Methods) (P : Value → Type 0) (xs : List ℕ) → WellFormedMethodsBy H ms w P xs → ThroughoutBodies Q L ms → WellFormedMethodsBy K ms w P xs
    methods-with no_method P xs h i = tt
    methods-with (method m ys e ms) P xs h i = (h.0, well-with e P (ys ++ xs) h.1 i.0, methods-with ms P xs h.2 i.1)

  entity-with : (P : Value → Type 0) (φ : Value → Bool) (a n : ℕ) (o : Entity) → IsEntityBy H w P φ a n o → ThroughoutEntity Q L o → IsEntityBy K w P φ a n o
  entity-with P φ a n (object t F M) h i = (h.0, h.1, k (signatures M) h.2 i.0, methods-with M (HeldBy t P) (this ∷ []) h.3 i.1)
  entity-with P φ a n (future v q) h i = h
  entity-with P φ a n (resolver m) h i = h

  actor-with : (P : Value → Type 0) (φ : Value → Bool) (a : ℕ) (A : Actor) → IsActorBy H w P φ a A → ThroughoutActor Q L A → IsActorBy K w P φ a A
  actor-with P φ a A h i = record {
    made = λ n o e. entity-with P φ a n o (h.made n o e) (all-at (ThroughoutEntity Q L) A.made n o i.made e);
    copied = λ n o e. ((h.copied n o e).0, entity-with P φ a n o (h.copied n o e).1 (all-at (ThroughoutEntity Q L) A.copied n o i.copied e));
    inbox = h.inbox;
    expr = well-with A.expr P [] h.expr i.expr;
  }

module _ (H K : ℕ → List Signature → Type 0) (σ : State) where
  pub state-with : (Q : Op Name → Type 0) (L : List Signature → Type 0) → ((l : List Signature) → H (length σ.words) l → L l → K (length σ.words) l)
      → IsStateBy H σ → ThroughoutState Q L σ → IsStateBy K σ
  state-with Q L k h i = record {
    few = h.few;
    words = h.words;
    started = h.started;
    limits = h.limits;
    actors = λ a A e. actor-with H K Q L (length σ.words) k _ _ a A (h.actors a A e) (all-at (ThroughoutActor Q L) σ.actors a A i e);
  }

  -- so less may be asked
  pub state-wider : ((l : List Signature) → H (length σ.words) l → K (length σ.words) l) → IsStateBy H σ → IsStateBy K σ
  state-wider k h = state-with AnyOperator (H (length σ.words)) (λ l i _. k l i) h (state-throughout H σ h)
