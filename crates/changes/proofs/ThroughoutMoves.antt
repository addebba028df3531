-- States in all of whose terms and methods something holds (`specs/ThroughoutMoves`): each move and each run leaves such a state, where the operators and
-- lists of methods that the rules form are allowed. Assumes nothing.
use Rattle.std.specs.Prelude.{ℕ, zero, suc, ◌+◌, ◌*◌, ◌/◌, ◌≡◌, not, set as set_at, eqb, leb, ltb, if◌then◌else◌}
use Rattle.std.proofs.Common.{subst as transp}
use mathlib.Core.List.{List, [], ◌∷◌, ◌++◌, map}
use Rattle.std.proofs.Math.Option.{none, some}
use Rattle.std.proofs.Math.ListN.{length, get_elem?}
use Rattle.atlite.specs.Base.{or_refuse}
use Rattle.atlite_laws.specs.Facts.{none-some, Every, holds, nothing, every-done, every_of, every_bind, given, checked, every-found, every-if, found}
use Rattle.atlite.specs.Term.{top, Series, made, copied, Value, null, num, ref, Name, plain, two_way, resolve, register, Op, plus, percent, same, choose, get, set, call, send, Kind, isolate, actor, Term, val, var, op, let_in, literal, Terms, Inits, Methods, Signature, values_of, is_value}
use Rattle.atlite.specs.Subst.{subst}
use Rattle.atlite.specs.State.{Message, message, Field, Tag, shared, isolated, Entity, object, future, resolver, Actor, with_expr, with_inbox, with_made, with_copied, counted, entity_of, with_entity, field_of, with_field, same_value}
use Rattle.atlite.specs.Redex.{redex}
use Rattle.atlite.specs.Outcome.{Copy, copy, Parcel, Effect, inner, taken, sends, creates, becomes, entity, own_entity, store, names_future}
use Rattle.atlite.specs.Passing.{reach, enough, isolates_for, copy_of, deliver}
use Rattle.atlite.specs.Rules.{as_number, number, plus_rule, percent_rule, same_rule, choose_rule, updates, null_fields, make_rule, newborn, new_rule, fields_of, get_rule, with_fields, set_rule, methods_of, call_rule, future_rule, forward, ownerless_rule, send_rule, forward_all, resolves, open_future, resolve_rule, call_by_name, one_of, pair_of, receiver_of, operate, rule}
use Rattle.atlite.specs.Move.{process, take_to, take_from, take_rule, turn, free, change, spread, moved}
use Rattle.atlite_laws.specs.Laws.{made_of}
use Rattle.atlite.specs.Valid.{AllOf}
use Rattle.invariant.specs.Terms.{all-wider, all_append}
use Rattle.invariant.specs.PassedIsolates.{From, reached}
use Rattle.changes.specs.MoveBy.{Kept}
use Rattle.changes.specs.Throughout.{Allows, Throughout, ThroughoutAll, ThroughoutInits, ThroughoutMethods, redex-throughout, plug-throughout, subst-throughout, invoke-throughout, choice-throughout, forward-throughout, forward-all-throughout, process-throughout, updates-throughout}
use Rattle.changes.specs.ThroughoutMoves.{ThroughoutEntity, ThroughoutActor, ThroughoutState, ThroughoutCopy, ThroughoutEffect, ThroughoutOutcome}

-- ---- entries of lists
pub all-at : {X : Type 0} (Q : X → Type 0) (l : List X) (n : ℕ) (x : X) → AllOf Q l → get_elem? l n ≡ some x → Q x
all-at Q [] n x h e = absurd (none-some e)
all-at Q (y ∷ l) zero x h e = let u : y ≡ x = cc in transp Q u h.0
all-at Q (y ∷ l) (suc n) x h e = all-at Q l n x h.1 e

all_set : {X : Type 0} (Q : X → Type 0) (l : List X) (n : ℕ) (x : X) → AllOf Q l → Q x → AllOf Q (set_at l n x)
all_set Q [] n x h q = tt
all_set Q (y ∷ l) zero x h q = (q, h.1)
all_set Q (y ∷ l) (suc n) x h q = (h.0, all_set Q l n x h.1 q)

all-change : {X : Type 0} (Q : X → Type 0) (f : X → X) (n : ℕ) (l : List X) → ((x : X) → Q x → Q (f x)) → AllOf Q l → AllOf Q (change f n l)
unfolding change
all-change Q f n [] k h = tt
all-change Q f zero (x ∷ l) k h = (k x h.0, h.1)
all-change Q f (suc n) (x ∷ l) k h = (h.0, all-change Q f n l k h.1)

all_map : {X Y : Type 0} (P : X → Type 0) (Q : Y → Type 0) (f : X → Y) (l : List X) → ((x : X) → P x → Q (f x)) → AllOf P l → AllOf Q (map f l)
all_map P Q f [] k h = tt
all_map P Q f (x ∷ l) k h = (k x h.0, all_map P Q f l k h.1)

module _ (Q : Op Name → Type 0) (L : List Signature → Type 0) where
  -- ---- an actor that moves
  -- of an entity the methods matter, which no rule changes
  fields-throughout : (o : Entity) (F : List Field) → ThroughoutEntity Q L o → ThroughoutEntity Q L (with_fields o F)
  unfolding with_fields
  fields-throughout (object t G M) F h = h
  fields-throughout (future v q) F h = tt
  fields-throughout (resolver n) F h = tt

  pub methods-throughout : (o : Entity) → ThroughoutEntity Q L o → Every (ThroughoutMethods Q L) (methods_of o)
  unfolding methods_of
  methods-throughout (object t F M) h = holds h
  methods-throughout (future v q) h = nothing
  methods-throughout (resolver n) h = nothing

  module _ (A : Actor) (h : ThroughoutActor Q L A) where
    -- with a term in the redex's place
    becomes-throughout : (f : Effect) (e : Term) → ThroughoutEffect Q L f → Throughout Q L e → Every (ThroughoutOutcome Q L) (becomes f A e)
    unfolding counted with_expr
    becomes-throughout f e k z = holds (record { made = h.made; copied = h.copied; expr = plug-throughout Q L e A.expr z h.expr }, k)

    -- its entities, as they are found and changed, and the isolates that go with a message
    entity-at : (r : Series) (n : ℕ) (o : Entity) → entity_of A r n ≡ some o → ThroughoutEntity Q L o
    unfolding entity_of
    entity-at made n o e = all-at (ThroughoutEntity Q L) A.made n o h.made e
    entity-at copied n o e = all-at (ThroughoutEntity Q L) A.copied n o h.copied e

    pub own-throughout : (a : ℕ) (v : Value) → Every (ThroughoutEntity Q L) (own_entity a A v)
    unfolding own_entity entity
    own-throughout a null = nothing
    own-throughout a (num n) = nothing
    own-throughout a (ref b r n) = checked 11 (eqb a b) λ _. every_of (or_refuse 12 (entity_of A r n)) λ o e. entity-at r n o (found 12 (entity_of A r n) o e)

    store-throughout : (v : Value) (o : Entity) → ThroughoutEntity Q L o → ThroughoutActor Q L (store A v o)
    unfolding store with_entity with_made with_copied
    store-throughout null o k = h
    store-throughout (num n) o k = h
    store-throughout (ref b made n) o k = record { made = all_set (ThroughoutEntity Q L) A.made n o h.made k; copied = h.copied; expr = h.expr }
    store-throughout (ref b copied n) o k = record { made = h.made; copied = all_set (ThroughoutEntity Q L) A.copied n o h.copied k; expr = h.expr }

    made-throughout : (l : List Entity) → AllOf (ThroughoutEntity Q L) l → ThroughoutActor Q L (with_made A (A.made ++ l))
    unfolding with_made
    made-throughout l k = record { made = all_append (ThroughoutEntity Q L) A.made l h.made k; copied = h.copied; expr = h.expr }

    isolates-throughout : (b a : ℕ) (vs : List Value) → Every (AllOf (ThroughoutCopy Q L)) (isolates_for b a A vs)
    unfolding isolates_for
    isolates-throughout b a vs = every-if (eqb a b) (λ _. holds tt) λ _. every_of (reach enough a A [] vs) λ met e.
        all-wider (From a A) (ThroughoutCopy Q L) met from (reached a A enough [] vs met e tt (λ new x c. tt)).from
      where
        from : (c : Copy) → From a A c → ThroughoutCopy Q L c
        from (copy v F M) (r, n, i, e) = entity-at r n (object isolated F M) e

  module _ (K : Allows Q L) where
    -- ---- the rules, and take
    module _ (s : List Actor) (a : ℕ) (A : Actor) (h : ThroughoutActor Q L A) where
      number-throughout : (n : ℕ) → Every (ThroughoutOutcome Q L) (number A n)
      unfolding number
      number-throughout n = checked 15 (leb n top) λ _. becomes-throughout A h inner (val (num n)) tt tt

      get-throughout : (v : Value) (f : ℕ) → Every (ThroughoutOutcome Q L) (get_rule a A v f)
      unfolding get_rule
      get-throughout v f = given (own_entity a A v) λ o _. given (fields_of o) λ F _. given (or_refuse 12 (field_of F f)) λ w _. becomes-throughout A h inner (val w) tt tt

      set-throughout : (v : Value) (f : ℕ) (w : Value) → Every (ThroughoutOutcome Q L) (set_rule a A v f w)
      unfolding set_rule
      set-throughout v f w = every_bind (own-throughout A h a v) λ o k. given (fields_of o) λ F _. given (or_refuse 12 (field_of F f)) λ old _.
          let p = with_fields o (with_field F f w) in
          becomes-throughout (store A v p) (store-throughout A h v p (fields-throughout o (with_field F f w) k)) inner (val w) tt tt

      call-throughout : (v : Value) (m : ℕ) (vs : List Value) → Every (ThroughoutOutcome Q L) (call_rule a A v m vs)
      unfolding call_rule
      call-throughout v m vs = every_bind (own-throughout A h a v) λ o k. every_bind (methods-throughout o k) λ M i. every_bind (invoke-throughout Q L M m v vs i.1) λ e z.
          becomes-throughout A h inner e tt z

      resolve-throughout : (v : Value) (vs : List Value) → Every (ThroughoutOutcome Q L) (resolve_rule s a A v vs)
      unfolding resolve_rule
      resolve-throughout v vs = given (own_entity a A v) λ o _. given (resolves o) λ n _. given (one_of vs) λ w _. given (entity A made n) λ p _.
          given (open_future p) λ q _. given (names_future s w) λ f _. checked 14 (not f) λ _.
          let B = store A (ref a made n) (future (some w) []) in
          becomes-throughout B (store-throughout A h (ref a made n) (future (some w) []) tt) inner (forward_all w q) tt (forward-all-throughout Q L K w q)

      by_name-throughout : (v : Value) (m : Name) (vs : List Value) → Every (ThroughoutOutcome Q L) (call_by_name s a A v m vs)
      unfolding call_by_name
      by_name-throughout v (plain m) vs = call-throughout v m vs
      by_name-throughout v (two_way m) vs = nothing
      by_name-throughout v resolve vs = resolve-throughout v vs
      by_name-throughout v register vs = nothing

      ownerless-throughout : (v : Value) (m : Name) (vs : List Value) → Every (ThroughoutOutcome Q L) (ownerless_rule A v m vs)
      unfolding ownerless_rule
      ownerless-throughout v (plain m) vs = nothing
      ownerless-throughout v (two_way m) vs = nothing
      ownerless-throughout v resolve vs = nothing
      ownerless-throughout v register vs = becomes-throughout A h inner (forward v register vs) tt (forward-throughout Q L K v register vs)

      send-throughout : (v : Value) (m : Name) (vs : List Value) → Every (ThroughoutOutcome Q L) (send_rule s a A v m vs)
      unfolding send_rule
      send-throughout null m vs = ownerless-throughout null m vs
      send-throughout (num n) m vs = ownerless-throughout (num n) m vs
      send-throughout (ref b r n) m vs = checked 12 (ltb b (length s)) λ _. every_bind (isolates-throughout A h b a vs) λ met k. becomes-throughout A h (sends _) (val null) k tt

      operate-throughout : (o : Op Name) (vs : List Value) (es : Terms) → ThroughoutAll Q L es → Every (ThroughoutOutcome Q L) (operate s a A o vs es)
      unfolding operate plus_rule percent_rule same_rule choose_rule
      operate-throughout plus vs es z = given (pair_of vs) λ (v, w) _. given (as_number v) λ i _. given (as_number w) λ j _. number-throughout (i + j)
      operate-throughout percent vs es z = given (pair_of vs) λ (v, w) _. given (as_number v) λ i _. given (as_number w) λ j _. number-throughout (i * j / 100)
      operate-throughout same vs es z = given (pair_of vs) λ (v, w) _. number-throughout (if same_value v w then 1 else 0)
      operate-throughout choose vs es z = every_bind (choice-throughout Q L es z) λ e i. becomes-throughout A h inner e tt i
      operate-throughout (get f) vs es z = given (one_of vs) λ v _. get-throughout v f
      operate-throughout (set f) vs es z = given (pair_of vs) λ (v, w) _. set-throughout v f w
      operate-throughout (call m) vs es z = given (receiver_of vs) λ (v, us) _. by_name-throughout v m us
      operate-throughout (send m) vs es z = given (receiver_of vs) λ (v, us) _. send-throughout v m us

      make-throughout : (t : Tag) (fs : Inits) (ms : Methods) → ThroughoutInits Q L fs → ThroughoutMethods Q L ms → Every (ThroughoutOutcome Q L) (make_rule a A t fs ms)
      unfolding make_rule
      make-throughout t fs ms i k =
          let l : List Entity = object t (null_fields fs) ms ∷ [] in
          becomes-throughout (with_made A (A.made ++ l)) (made-throughout A h l (k, tt)) inner (updates (ref a made (length A.made)) fs) tt (updates-throughout Q L K _ fs i)

      new-throughout : (k : Kind) (fs : Inits) (ms : Methods) → ThroughoutInits Q L fs → ThroughoutMethods Q L ms → Every (ThroughoutOutcome Q L) (new_rule s a A k fs ms)
      unfolding new_rule newborn
      new-throughout Kind.object fs ms i k = make-throughout shared fs ms i k
      new-throughout isolate fs ms i k = make-throughout isolated fs ms i k
      new-throughout actor fs ms i k = becomes-throughout A h (creates _) (val _) (record { made = (k, tt); copied = tt; expr = updates-throughout Q L K _ fs i }) tt

      rule-throughout : (e : Term) → Throughout Q L e → Every (ThroughoutOutcome Q L) (rule s a A e)
      unfolding rule future_rule
      rule-throughout (val v) z = nothing
      rule-throughout (var x) z = nothing
      rule-throughout (op o es) z = operate-throughout o (values_of es) es z.1
      rule-throughout (let_in x e d) z = becomes-throughout A h inner (subst x e d) tt (subst-throughout Q L x e d z.0 z.1)
      rule-throughout (Term.future x y e) z =
          let n = length A.made in
          let l : List Entity = future none [] ∷ resolver n ∷ [] in
          becomes-throughout (with_made A (A.made ++ l)) (made-throughout A h l (tt, (tt, tt))) inner _ tt (subst-throughout Q L y _ _ tt (subst-throughout Q L x (val (ref a made n)) e tt z))
      rule-throughout (literal k fs ms) z = new-throughout k fs ms z.0 z.1

    take-to-throughout : (A : Actor) → ThroughoutActor Q L A → (o : Entity) (v : Value) (m : Name) (vs : List Value) → Every (ThroughoutOutcome Q L) (take_to A o v m vs)
    unfolding take_to
    take-to-throughout A h (object t F M) v m vs = becomes-throughout A h taken (process v m vs) tt (process-throughout Q L K v m vs)
    take-to-throughout A h (resolver n) v m vs = becomes-throughout A h taken (process v m vs) tt (process-throughout Q L K v m vs)
    take-to-throughout A h (future none q) v m vs = let o : Entity = future none (q ++ (message v m vs ∷ [])) in becomes-throughout (store A v o) (store-throughout A h v o tt) taken (val null) tt tt
    take-to-throughout A h (future (some w) q) v m vs = becomes-throughout A h taken (forward w m vs) tt (forward-throughout Q L K w m vs)

    take-throughout : (a : ℕ) (A : Actor) (q : List Message) → ThroughoutActor Q L A → Every (ThroughoutOutcome Q L) (take_rule a A q)
    unfolding take_rule take_from with_inbox
    take-throughout a A [] h = nothing
    take-throughout a A (message v m vs ∷ q) h =
        given (own_entity a (with_inbox A q) v) λ o _. take-to-throughout (with_inbox A q) (record { made = h.made; copied = h.copied; expr = h.expr }) o v m vs

    turn-throughout : (s : List Actor) (a : ℕ) (A : Actor) → ThroughoutActor Q L A → Every (ThroughoutOutcome Q L) (turn s a A)
    unfolding turn
    turn-throughout s a A h = every-if (is_value A.expr) (λ _. take-throughout a A A.inbox h) (λ _. rule-throughout s a A h (redex A.expr) (redex-throughout Q L A.expr h.expr))

    -- ---- what a move leaves
    deliver-throughout : (p : Parcel) (A : Actor) → AllOf (ThroughoutCopy Q L) p.copies → ThroughoutActor Q L A → ThroughoutActor Q L (deliver p A)
    unfolding deliver copy_of with_inbox with_copied
    deliver-throughout p A k h =
        let new = all_map (ThroughoutCopy Q L) (ThroughoutEntity Q L) (copy_of p.copies p.to (length A.copied)) p.copies one k in
        record { made = h.made; copied = all_append (ThroughoutEntity Q L) A.copied _ h.copied new; expr = h.expr }
      where
        one : (c : Copy) → ThroughoutCopy Q L c → ThroughoutEntity Q L (copy_of p.copies p.to (length A.copied) c)
        one (copy v F M) i = i

    spread-throughout : (f : Effect) (s : List Actor) → ThroughoutEffect Q L f → AllOf (ThroughoutActor Q L) s → AllOf (ThroughoutActor Q L) (spread f s)
    unfolding spread
    spread-throughout inner s k h = h
    spread-throughout taken s k h = h
    spread-throughout (sends p) s k h = all-change (ThroughoutActor Q L) (deliver p) p.to s (λ A. deliver-throughout p A k) h
    spread-throughout (creates B) s k h = all_append (ThroughoutActor Q L) s (B ∷ []) h (k, tt)

    free-throughout : (s : List Actor) (a : ℕ) → AllOf (ThroughoutActor Q L) s → Every (ThroughoutOutcome Q L) (free s a)
    unfolding free
    free-throughout s a h = every-found 8 (get_elem? s a) λ A e. turn-throughout s a A (all-at (ThroughoutActor Q L) s a A h e)

    -- A move of such a state leaves such a state.
    pub move-throughout : Kept (ThroughoutState Q L)
    unfolding moved
    move-throughout B σ a M h e =
        let m = made_of B σ a M e in
        let (k, i) = every-done (free-throughout σ.actors a h) m.freely in
        rw m.leaves (spread-throughout m.out.effect (set_at σ.actors a m.out.own) i (all_set (ThroughoutActor Q L) σ.actors a m.out.own h k))
