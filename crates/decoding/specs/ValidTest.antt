-- The tests of `Valid`: what computes whether data is a state. Assumes nothing.
--
-- `is_state` is true exactly of the states of `Valid` (`is_state_lem` of crate `invariant`), and so its parts need not be believed: `holdable` tests
-- what `MayHold` says, `own_reference` `OwnValue`, `fields_hold` `FieldsHeld`, `entity_holds` `IsEntity`, `actor_holds` `IsActor`, and each other test the
-- proposition of its own name.
use Rattle.std.specs.Prelude.{ℕ, suc, Bool, true, false, ◌&&◌, ◌||◌, not, List, [], ◌∷◌, ◌++◌, length, eqb, leb, ltb}
use Rattle.std.proofs.Math.Option.{Option, none, some}
use Rattle.atlite.specs.Base.{member, all}
use Rattle.atlite.specs.Term.{this, top, made, Value, null, num, ref, Kind, isolate, actor, Term, val, var, op, let_in, literal, Terms, nil, cons, Inits, no_field, Methods, no_method, method, count_terms, init_names, signatures, seen}
use Rattle.atlite.specs.State.{Message, message, Field, field, Tag, shared, isolated, Entity, object, future, resolver, Actor, State, entity_at, is_future, is_isolate, field_names, same_value}
use Rattle.atlite.specs.Limits.{full, within_limits}
use Rattle.atlite.specs.Valid.{is_variable, fields_named, methods_named, parameters, sendable, operable, words_hold, unreferring}

unfoldable pub held : Kind → (Value → Bool) → Value → Bool
held Kind.object p = p
held isolate p = unreferring
held actor p = unreferring

unfoldable mutual
  pub well_formed : ℕ → (Value → Bool) → List ℕ → Term → Bool
  well_formed w p xs (val v) = p v
  well_formed w p xs (var x) = member x xs
  well_formed w p xs (op o es) = operable w o (count_terms es) && well_formed_all w p xs es
  well_formed w p xs (let_in x e d) = is_variable w x && well_formed w p xs e && well_formed w p (x ∷ xs) d
  well_formed w p xs (Term.future x y e) = is_variable w x && is_variable w y && not (eqb x y) && well_formed w p (x ∷ y ∷ xs) e
  well_formed w p xs (literal k fs ms) =
      fields_named w (init_names fs)
      && methods_named w (signatures ms)
      && well_formed_inits w (held k p) (this ∷ seen k xs) fs
      && well_formed_methods w (held k p) (this ∷ seen k xs) ms

  pub well_formed_all : ℕ → (Value → Bool) → List ℕ → Terms → Bool
  well_formed_all w p xs nil = true
  well_formed_all w p xs (cons e es) = well_formed w p xs e && well_formed_all w p xs es

  pub well_formed_inits : ℕ → (Value → Bool) → List ℕ → Inits → Bool
  well_formed_inits w p xs no_field = true
  well_formed_inits w p xs (Inits.field f e fs) = well_formed w p xs e && well_formed_inits w p xs fs

  pub well_formed_methods : ℕ → (Value → Bool) → List ℕ → Methods → Bool
  well_formed_methods w p xs no_method = true
  well_formed_methods w p xs (method m ys e ms) = parameters w ys && well_formed w p (ys ++ xs) e && well_formed_methods w p xs ms

unfoldable pub visible : ℕ → ℕ → Option Entity → Bool
visible a b none = false
visible a b (some o) = eqb a b || not (is_isolate o)

unfoldable pub holdable : State → ℕ → Value → Bool
holdable σ a null = true
holdable σ a (num n) = leb n top
holdable σ a (ref b s n) = visible a b (entity_at σ (ref b s n))

unfoldable pub fields_hold : (Value → Bool) → List Field → Bool
fields_hold p [] = true
fields_hold p (field f v ∷ F) = p v && fields_hold p F

unfoldable pub own_reference : ℕ → Value → Bool
own_reference a null = false
own_reference a (num n) = false
own_reference a (ref b s n) = eqb a b

unfoldable pub arrived : State → ℕ → Message → Bool
arrived σ a (message v m vs) =
    own_reference a v && holdable σ a v && sendable (length σ.words) m (length vs) && all (holdable σ a) vs

unfoldable pub waits : State → ℕ → ℕ → Message → Bool
waits σ a n (message v m vs) =
    same_value v (ref a made n) && sendable (length σ.words) m (length vs) && all (holdable σ a) vs

unfoldable pub held_by : Tag → (Value → Bool) → Value → Bool
held_by shared p = p
held_by isolated p = unreferring

unfoldable pub no_message : List Message → Bool
no_message [] = true
no_message (m ∷ q) = false

unfoldable pub entity_holds : State → ℕ → ℕ → Entity → Bool
entity_holds σ a n (object t F M) =
    let w = length σ.words in
    fields_named w (field_names F)
    && fields_hold (holdable σ a) F
    && methods_named w (signatures M)
    && well_formed_methods w (held_by t (holdable σ a)) (this ∷ []) M
entity_holds σ a n (future none q) = all (waits σ a n) q
entity_holds σ a n (future (some v) q) = holdable σ a v && not (is_future σ v) && no_message q
entity_holds σ a n (resolver k) = is_future σ (ref a made k)

unfoldable pub entities_hold : State → ℕ → ℕ → List Entity → Bool
entities_hold σ a n [] = true
entities_hold σ a n (o ∷ h) = entity_holds σ a n o && entities_hold σ a (suc n) h

unfoldable pub actor_holds : State → ℕ → Actor → Bool
actor_holds σ a A =
    entities_hold σ a 0 A.made
    && all is_isolate A.copied
    && entities_hold σ a 0 A.copied
    && all (arrived σ a) A.inbox
    && well_formed (length σ.words) (holdable σ a) [] A.expr

unfoldable pub actors_hold : State → ℕ → List Actor → Bool
actors_hold σ a [] = true
actors_hold σ a (A ∷ As) = actor_holds σ a A && actors_hold σ (suc a) As

unfoldable pub is_state : State → Bool
is_state σ =
    leb (length σ.words) 64
    && words_hold σ.words
    && ltb 0 (length σ.actors)
    && within_limits full σ.actors
    && actors_hold σ 0 σ.actors

unfoldable pub ValidTest : Unit {0}
unfolding held well_formed visible holdable fields_hold own_reference arrived waits held_by no_message entity_holds entities_hold actor_holds actors_hold is_state
ValidTest = tt
