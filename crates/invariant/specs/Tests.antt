-- The test `is_state` is true of the states of `Valid` and of nothing else: part by part, each test says what its proposition
-- says. Assumes nothing.
use Rattle.std.specs.Prelude.{◌≡◌, Bool, ◌&&◌, ◌||◌, ◌↔◌, length, eqb, leb, ltb}
use Rattle.std.proofs.Math.Path.{refl, subst as transp}
use Rattle.std.proofs.Common.{sym}
use Rattle.std.proofs.Math.Bool.{true, false, not}
use Rattle.std.proofs.lemmas.Bool.{false≢true}
use Rattle.std.proofs.Math.Option.{Option, none, some}
use mathlib.Core.List.{List, [], ◌∷◌}
use Prim.Native.Nat.{ℕ, zero, suc, ◌+◌}
use native.Mathlib.Omega.{arith}
use Rattle.std.proofs.Math.ListN.{get_elem?}
use Rattle.atlite.specs.Base.{all}
use Rattle.atlite.specs.Term.{this, made, copied, Value, null, num, ref, object, future, field, signatures}
use Rattle.atlite.specs.State.{Message, message, Field, Tag, shared, isolated, Entity, resolver, Actor, State, entity_at, is_future, same_value, is_isolate, field_names}
use Rattle.atlite.specs.Valid.{sendable, fields_named, methods_named, words_hold, Each, HeldBy, FieldsHeld, Waits, OwnValue, Arrived, IsEntity, IsActor, MayHold, IsState}
use Rattle.decoding.specs.ValidTest.{well_formed, well_formed_methods, visible, holdable, fields_hold, own_reference, arrived, waits, held_by, no_message, entity_holds, entities_hold, actor_holds, actors_hold, is_state}
use Rattle.atlite_laws.specs.Facts.{eqb_same, none-some, and₂, and₃, and₄, both₂, both₃, both₄, and₅}
use Rattle.atlite_laws.specs.Laws.{same-value, value_same}
use Rattle.atlite.specs.Limits.{full, within_limits}
use Rattle.atlite.specs.State as St
use Rattle.invariant.specs.Monotonicity.{actor-up}
use borrow.Author.Tests.{eqb-true, leb-true, ltb-true, le-leb, lt-ltb}
use Rattle.invariant.specs.Terms.{wider_methods}
use Rattle.invariant.specs.TermTests.{Is, all-is, is_all, wf-to, wf-from, methods-to, methods-from}

own-to : (a : ℕ) (v : Value) → own_reference a v ≡ true → OwnValue a v
unfolding own_reference
own-to a null h = absurd (false≢true h)
own-to a (num n) h = absurd (false≢true h)
own-to a (ref b r n) h = eqb-true a b h

own-from : (a : ℕ) (v : Value) → OwnValue a v → own_reference a v ≡ true
unfolding own_reference
own-from a null h = absurd h
own-from a (num n) h = absurd h
own-from a (ref b r n) h = rw h (eqb_same b)

not-to : (b : Bool) → not b ≡ true → b ≡ false
not-to true h = sym h
not-to false h = refl

not-from : (b : Bool) → b ≡ false → not b ≡ true
not-from true h = sym h
not-from false h = refl

no-message-to : (q : List Message) → no_message q ≡ true → q ≡ []
unfolding no_message
no-message-to [] h = refl
no-message-to (m ∷ q) h = absurd (false≢true h)

no-message-from : (q : List Message) → q ≡ [] → no_message q ≡ true
unfolding no_message
no-message-from q h = rw h

-- of the actor a in the state σ
module _ (σ : State) (a : ℕ) where
  abbrev w : ℕ
  w = length σ.words

  abbrev p : Value → Bool
  p = holdable σ a

  fields-to : (F : List Field) → fields_hold p F ≡ true → FieldsHeld (Is p) F
  unfolding fields_hold
  fields-to [] h = tt
  fields-to (St.field f v ∷ F) h = let r = and₂ (p v) (fields_hold p F) h in (r.0, fields-to F r.1)

  fields-from : (F : List Field) → FieldsHeld (Is p) F → fields_hold p F ≡ true
  unfolding fields_hold
  fields-from [] h = refl
  fields-from (St.field f v ∷ F) h = both₂ h.0 (fields-from F h.1)

  by-to : (t : Tag) (v : Value) → held_by t p v ≡ true → HeldBy t (Is p) v
  unfolding held_by
  by-to shared v h = h
  by-to isolated v h = h

  by-from : (t : Tag) (v : Value) → HeldBy t (Is p) v → held_by t p v ≡ true
  unfolding held_by
  by-from shared v h = h
  by-from isolated v h = h

  waits-to : (n : ℕ) (m : Message) → waits σ a n m ≡ true → Waits w (Is p) (ref a made n) m
  unfolding waits
  waits-to n (message v m vs) h =
      let r = and₃ (same_value v (ref a made n)) (sendable w m (length vs)) (all p vs) h in
      (value_same v (ref a made n) r.0, (r.1, all-is p (Is p) (λ x k. k) vs r.2))

  waits-from : (n : ℕ) (m : Message) → Waits w (Is p) (ref a made n) m → waits σ a n m ≡ true
  unfolding waits
  waits-from n (message v m vs) h =
      let e : same_value v (ref a made n) ≡ true = rw h.0 (same-value (ref a made n)) in
      both₃ e h.1.0 (is_all p (Is p) (λ x k. k) vs h.1.1)

  arrived-to : (m : Message) → arrived σ a m ≡ true → Arrived w (Is p) a m
  unfolding arrived
  arrived-to (message v m vs) h =
      let r = and₄ (own_reference a v) (p v) (sendable w m (length vs)) (all p vs) h in
      (own-to a v r.0, r.1, (r.2, all-is p (Is p) (λ x k. k) vs r.3))

  arrived-from : (m : Message) → Arrived w (Is p) a m → arrived σ a m ≡ true
  unfolding arrived
  arrived-from (message v m vs) h = both₄ (own-from a v h.0) h.1 h.2.0 (is_all p (Is p) (λ x k. k) vs h.2.1)

  entity-to : (n : ℕ) (o : Entity) → entity_holds σ a n o ≡ true → IsEntity w (Is p) (is_future σ) a n o
  unfolding entity_holds
  entity-to n (St.object t F M) h =
      let r = and₄ (fields_named w (field_names F)) (fields_hold p F) (methods_named w (signatures M)) (well_formed_methods w (held_by t p) (this ∷ []) M) h in
      (r.0, fields-to F r.1, r.2, wider_methods M w (Is (held_by t p)) (HeldBy t (Is p)) (this ∷ []) (this ∷ []) (by-to t) (λ z i. i) (methods-to M w (held_by t p) (this ∷ []) r.3))
  entity-to n (St.future none q) h = all-is (waits σ a n) (Waits w (Is p) (ref a made n)) (waits-to n) q h
  entity-to n (St.future (some v) q) h = let r = and₃ (p v) (not (is_future σ v)) (no_message q) h in (r.0, not-to (is_future σ v) r.1, no-message-to q r.2)
  entity-to n (resolver k) h = h

  entity-from : (n : ℕ) (o : Entity) → IsEntity w (Is p) (is_future σ) a n o → entity_holds σ a n o ≡ true
  unfolding entity_holds
  entity-from n (St.object t F M) h = both₄ h.0 (fields-from F h.1) h.2
      (methods-from M w (held_by t p) (this ∷ []) (wider_methods M w (HeldBy t (Is p)) (Is (held_by t p)) (this ∷ []) (this ∷ []) (by-from t) (λ z i. i) h.3))
  entity-from n (St.future none q) h = is_all (waits σ a n) (Waits w (Is p) (ref a made n)) (waits-from n) q h
  entity-from n (St.future (some v) q) h = both₃ h.0 (not-from (is_future σ v) h.1) (no-message-from q h.2)
  entity-from n (resolver k) h = h

  entities-to : (l : List Entity) (k : ℕ) → entities_hold σ a k l ≡ true → Each (λ n. IsEntity w (Is p) (is_future σ) a (k + n)) l
  unfolding entities_hold
  entities-to [] k h n o e = absurd (none-some e)
  entities-to (u ∷ l) k h zero o e =
      let r = and₂ (entity_holds σ a k u) (entities_hold σ a (suc k) l) h in
      let q : u ≡ o = cc in
      let z : k ≡ k + 0 = omega arith in
      transp (λ i. IsEntity w (Is p) (is_future σ) a i o) z (transp (IsEntity w (Is p) (is_future σ) a k) q (entity-to k u r.0))
  entities-to (u ∷ l) k h (suc n) o e =
      let r = and₂ (entity_holds σ a k u) (entities_hold σ a (suc k) l) h in
      let z : suc k + n ≡ k + suc n = omega arith in
      transp (λ i. IsEntity w (Is p) (is_future σ) a i o) z (entities-to l (suc k) r.1 n o e)

  entities-from : (l : List Entity) (k : ℕ) → Each (λ n. IsEntity w (Is p) (is_future σ) a (k + n)) l → entities_hold σ a k l ≡ true
  unfolding entities_hold
  entities-from [] k h = refl
  entities-from (u ∷ l) k h =
      let z : k + 0 ≡ k = omega arith in
      both₂ (entity-from k u (transp (λ i. IsEntity w (Is p) (is_future σ) a i u) z (h 0 u refl)))
      (entities-from l (suc k) (λ n o e. let q : k + suc n ≡ suc k + n = omega arith in transp (λ i. IsEntity w (Is p) (is_future σ) a i o) q (h (suc n) o e)))

  each-zero : (E : ℕ → Entity → Type 0) (l : List Entity) → Each (λ n. E (0 + n)) l → Each E l
  each-zero E l h n o e = let z : 0 + n ≡ n = omega arith in transp (λ i. E i o) z (h n o e)

  zero-each : (E : ℕ → Entity → Type 0) (l : List Entity) → Each E l → Each (λ n. E (0 + n)) l
  zero-each E l h n o e = let z : n ≡ 0 + n = omega arith in transp (λ i. E i o) z (h n o e)

  isolates-to : (l : List Entity) → all is_isolate l ≡ true → (n : ℕ) (o : Entity) → get_elem? l n ≡ some o → is_isolate o ≡ true
  unfolding all
  isolates-to [] h n o e = absurd (none-some e)
  isolates-to (u ∷ l) h zero o e = let q : u ≡ o = cc in transp (Is is_isolate) q (and₂ (is_isolate u) (all is_isolate l) h).0
  isolates-to (u ∷ l) h (suc n) o e = isolates-to l (and₂ (is_isolate u) (all is_isolate l) h).1 n o e

  isolates-from : (l : List Entity) → ((n : ℕ) (o : Entity) → get_elem? l n ≡ some o → is_isolate o ≡ true) → all is_isolate l ≡ true
  unfolding all
  isolates-from [] h = refl
  isolates-from (u ∷ l) h = both₂ (h 0 u refl) (isolates-from l (λ n. h (suc n)))

  actor-to : (A : Actor) → actor_holds σ a A ≡ true → IsActor w (Is p) (is_future σ) a A
  unfolding actor_holds
  actor-to A h =
      let E = IsEntity w (Is p) (is_future σ) a in
      let r = and₄ (entities_hold σ a 0 A.made && all is_isolate A.copied) (entities_hold σ a 0 A.copied) (all (arrived σ a) A.inbox) (well_formed w p [] A.expr) h in
      let q = and₂ (entities_hold σ a 0 A.made) (all is_isolate A.copied) r.0 in
      record {
        made = each-zero E A.made (entities-to A.made 0 q.0);
        copied = λ n o e. (isolates-to A.copied q.1 n o e, each-zero E A.copied (entities-to A.copied 0 r.1) n o e);
        inbox = all-is (arrived σ a) (Arrived w (Is p) a) arrived-to A.inbox r.2;
        expr = wf-to A.expr w p [] r.3;
      }

  actor-from : (A : Actor) → IsActor w (Is p) (is_future σ) a A → actor_holds σ a A ≡ true
  unfolding actor_holds
  actor-from A h =
      let E = IsEntity w (Is p) (is_future σ) a in
      both₄ (both₂ (entities-from A.made 0 (zero-each E A.made h.made)) (isolates-from A.copied (λ n o e. (h.copied n o e).0)))
      (entities-from A.copied 0 (zero-each E A.copied (λ n o e. (h.copied n o e).1)))
      (is_all (arrived σ a) (Arrived w (Is p) a) arrived-from A.inbox h.inbox)
      (wf-from A.expr w p [] h.expr)

-- what an actor may hold
module _ (σ : State) (a : ℕ) where
  pub hold-to : (v : Value) → holdable σ a v ≡ true → MayHold σ a v
  unfolding holdable visible
  hold-to null h = tt
  hold-to (num n) h = h
  hold-to (ref b r n) h = go (entity_at σ (ref b r n)) refl h
    where
      owner : (c d : Bool) → (c || not d) ≡ true → d ≡ true → c ≡ true
      owner true d k i = refl
      owner false true k i = k
      owner false false k i = i

      go : (m : Option Entity) → entity_at σ (ref b r n) ≡ m → visible a b m ≡ true → MayHold σ a (ref b r n)
      go none e k = absurd (false≢true k)
      go (some o) e k = (o, e, λ i. eqb-true a b (owner (eqb a b) (is_isolate o) k i))

  pub hold-from : (v : Value) → MayHold σ a v → holdable σ a v ≡ true
  unfolding holdable visible
  hold-from null h = refl
  hold-from (num n) h = h
  hold-from (ref b r n) h = rw h.1 (go (is_isolate h.0) refl)
    where
      or-true : (c : Bool) → (c || true) ≡ true
      or-true true = refl
      or-true false = refl

      go : (d : Bool) → is_isolate h.0 ≡ d → (eqb a b || not d) ≡ true
      go true e = rw (h.2 e, eqb_same b)
      go false e = or-true (eqb a b)

module _ (σ : State) where
  actors-to : (l : List Actor) (k : ℕ) → actors_hold σ k l ≡ true → (i : ℕ) (B : Actor) → get_elem? l i ≡ some B → actor_holds σ (k + i) B ≡ true
  unfolding actors_hold
  actors-to [] k h i B e = absurd (none-some e)
  actors-to (C ∷ l) k h zero B e =
      let q : C ≡ B = cc in
      let z : k + 0 ≡ k = omega arith in
      rw (z, ← q) (and₂ (actor_holds σ k C) (actors_hold σ (suc k) l) h).0
  actors-to (C ∷ l) k h (suc i) B e =
      let z : k + suc i ≡ suc k + i = omega arith in
      rw z (actors-to l (suc k) (and₂ (actor_holds σ k C) (actors_hold σ (suc k) l) h).1 i B e)

  actors-from : (l : List Actor) (k : ℕ) → ((i : ℕ) (B : Actor) → get_elem? l i ≡ some B → actor_holds σ (k + i) B ≡ true) → actors_hold σ k l ≡ true
  unfolding actors_hold
  actors-from [] k h = refl
  actors-from (C ∷ l) k h =
      let z : k + 0 ≡ k = omega arith in
      let first : actor_holds σ k C ≡ true = rw z at (h 0 C refl) in
      both₂ first (actors-from l (suc k) (λ i B e. let q : k + suc i ≡ suc k + i = omega arith in rw q at (h (suc i) B e)))

  -- of the actor a, whatever it may hold as a test or as a proposition
  whole_to : (a : ℕ) (A : Actor) → actor_holds σ a A ≡ true → IsActor (length σ.words) (MayHold σ a) (is_future σ) a A
  whole_to a A h =
      actor-up (length σ.words) (Is (holdable σ a)) (MayHold σ a) (is_future σ) (is_future σ) (hold-to σ a) (λ v _. refl) (λ v q. q) a A (actor-to σ a A h)

  whole_from : (a : ℕ) (A : Actor) → IsActor (length σ.words) (MayHold σ a) (is_future σ) a A → actor_holds σ a A ≡ true
  whole_from a A h =
      actor-from σ a A
      (actor-up (length σ.words) (MayHold σ a) (Is (holdable σ a)) (is_future σ) (is_future σ) (hold-from σ a) (λ v _. refl) (λ v q. q) a A h)

  to-state : is_state σ ≡ true → IsState σ
  unfolding is_state
  to-state h =
      let ws = σ.words in
      let s = σ.actors in
      let r = and₅ (leb (length ws) 64) (words_hold ws) (ltb 0 (length s)) (within_limits full s) (actors_hold σ 0 s) h in
      record {
        few = leb-true _ _ r.0;
        words = r.1;
        started = ltb-true _ _ r.2;
        limits = r.3;
        actors = λ a A e. let z : 0 + a ≡ a = omega arith in whole_to a A (rw z at (actors-to s 0 r.4 a A e));
      }

  from-state : IsState σ → is_state σ ≡ true
  unfolding is_state
  from-state h =
      both₂ (both₄ (le-leb _ _ h.few) h.words (lt-ltb _ _ h.started) h.limits)
      (actors-from σ.actors 0 (λ a A e. let z : 0 + a ≡ a = omega arith in rw z (whole_from a A (h.actors a A e))))

pub is_state_lem : (σ : State) → (is_state σ ≡ true) ↔ IsState σ
is_state_lem σ = (to-state σ, from-state σ)
