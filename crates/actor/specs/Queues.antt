-- The messages that wait, given to their futures. Words have them apart from the slots, in order of their futures; so the slots tell
-- entities with no queue, and each open future is given the messages that are aimed at it. Assumes nothing.
use Rattle.std.specs.Prelude.{ℕ, zero, suc, ◌+◌, ◌-◌, ◌*◌, ◌≤◌, ◌%◌, ◌≡◌, Bool, length, drop, get_or, if◌then◌else◌}
use Rattle.std.proofs.Math.Path.{refl}
use Rattle.std.proofs.Common.{sym, ap, ap₂, ◌∙◌, subst as transp, add-zero, arith, get_or-drop}
use Rattle.std.proofs.Math.Bool.{true, false}
use mathlib.Core.List.{List, [], ◌∷◌, ◌++◌, append_assoc}
use Rattle.std.proofs.Math.Option.{none, some}
use borrow.Author.Tests.{eqb-true, eqb-false}
use Rattle.std.proofs.Math.Dec.{eqb}
use Rattle.std.proofs.Math.ListN.{get_elem?}
use Rattle.atlite.specs.Base.{sum}
use Rattle.atlite.specs.Term.{made, Value, ref}
use Rattle.atlite.specs.State.{Message, shared, isolated, Entity, object, future, resolver}
use Rattle.atlite.specs.Limits.{body_nodes}
use Rattle.atlite.specs.Valid.{AllOf, Waits, IsEntity}
use Rattle.atlite_laws.specs.Facts.{none-some}
use Rattle.layout.specs.Numbers.{digit_limit, slot_size}
use Rattle.layout_laws.specs.PackLaws.{Each, each_map}
use Rattle.layout.specs.Terms.{encode_methods}
use Rattle.layout.specs.Layout.{tag_number, slot, slots, entity_methods, bodies, queue, queues}
use Rattle.decoding.specs.Decode.{aim, mine, others}
use Rattle.layout_laws.specs.Slots.{MessageFits, EntityFits, EntitiesFit, slot-length, kind_of_entity, slot-kind}
use Rattle.layout_laws.specs.Spans.{drop_past}
use Rattle.actor.specs.Series.{EachFrom}

-- ---- the kind in a slot's head
kind-there : (w : List ℕ) (n at : ℕ) (o : Entity) (r : List ℕ) → EntityFits n o → drop at w ≡ slot n o ++ r → get_or w at 0 % digit_limit ≡ kind_of_entity o
kind-there w n at o r f e = ap (λ i. get_or w i 0 % digit_limit) (sym (add-zero at)) ∙ ap (λ x. x % digit_limit) (sym (get_or-drop at w 0 0) ∙ ap (λ l. get_or l 0 0) e) ∙ slot-kind n o r f

pub slots-kind : (w : List ℕ) (h : List Entity) (n at : ℕ) (r : List ℕ) → EntitiesFit n h → drop at w ≡ slots n h ++ r
    → (i : ℕ) (o : Entity) → get_elem? h i ≡ some o → get_or w (at + slot_size * i) 0 % digit_limit ≡ kind_of_entity o
unfolding slots
slots-kind w [] n at r f e i o g = absurd (none-some g)
slots-kind w (u ∷ h) n at r f e zero o g =
    let q : u ≡ o = cc in
    let z : at + slot_size * 0 ≡ at = omega arith in
    rw (z, ← q) (kind-there w n at u (slots (suc n) h ++ r) f.0 (e ∙ append_assoc (slot n u) (slots (suc n) h) r))
slots-kind w (u ∷ h) n at r f e (suc i) o g =
    let c : drop at w ≡ slot n u ++ (slots (suc n) h ++ r) = e ∙ append_assoc (slot n u) (slots (suc n) h) r in
    let d : drop (at + slot_size) w ≡ slots (suc n) h ++ r = rw (slot-length n u f.0) at (drop_past w at (slot n u) (slots (suc n) h ++ r) c) in
    let z : at + slot_size * suc i ≡ at + slot_size + slot_size * i = omega arith in
    rw z (slots-kind w h (suc n) (at + slot_size) r f.1 d i o g)

-- ---- queues given
unfoldable pub with_queue : Entity → List Message → Entity
with_queue (object t F M) q = object t F M
with_queue (future none r) q = future none q
with_queue (future (some v) r) q = future (some v) r
with_queue (resolver k) q = resolver k

-- from the number n on
unfoldable pub fill : ℕ → List Entity → List Message → List Entity
fill n [] q = []
fill n (o ∷ h) q = with_queue o (mine n q) ∷ fill (suc n) h (others n q)

module _ (o : Entity) (q : List Message) where
  slot_same : (n : ℕ) → slot n (with_queue o q) ≡ slot n o
  unfolding with_queue slot
  slot_same n = go o
    where
      go : (o : Entity) → slot n (with_queue o q) ≡ slot n o
      go (object t F M) = refl
      go (future none r) = refl
      go (future (some v) r) = refl
      go (resolver k) = refl

  methods-same : entity_methods (with_queue o q) ≡ entity_methods o
  unfolding with_queue entity_methods
  methods-same = go o
    where
      go : (o : Entity) → entity_methods (with_queue o q) ≡ entity_methods o
      go (object t F M) = refl
      go (future none r) = refl
      go (future (some v) r) = refl
      go (resolver k) = refl

  nodes-same : body_nodes (with_queue o q) ≡ body_nodes o
  unfolding with_queue body_nodes
  nodes-same = go o
    where
      go : (o : Entity) → body_nodes (with_queue o q) ≡ body_nodes o
      go (object t F M) = refl
      go (future none r) = refl
      go (future (some v) r) = refl
      go (resolver k) = refl

pub fill-length : (h : List Entity) (n : ℕ) (q : List Message) → length (fill n h q) ≡ length h
unfolding fill
fill-length [] n q = refl
fill-length (o ∷ h) n q = ap suc (fill-length h (suc n) (others n q))

pub fill-slots : (h : List Entity) (n : ℕ) (q : List Message) → slots n (fill n h q) ≡ slots n h
unfolding fill slots
fill-slots [] n q = refl
fill-slots (o ∷ h) n q = ap₂ ◌++◌ (slot_same o (mine n q) n) (fill-slots h (suc n) (others n q))

pub fill-bodies : (h : List Entity) (n : ℕ) (q : List Message) → bodies (fill n h q) ≡ bodies h
unfolding fill bodies
fill-bodies [] n q = refl
fill-bodies (o ∷ h) n q = ap₂ ◌++◌ (ap encode_methods (methods-same o (mine n q))) (fill-bodies h (suc n) (others n q))

pub fill-nodes : (h : List Entity) (n : ℕ) (q : List Message) → sum body_nodes (fill n h q) ≡ sum body_nodes h
unfolding fill sum
fill-nodes [] n q = refl
fill-nodes (o ∷ h) n q = ap₂ ◌+◌ (nodes-same o (mine n q)) (fill-nodes h (suc n) (others n q))

-- ---- those of one future, and those after it
mine-others : (n : ℕ) (q : List Message) → mine n q ++ others n q ≡ q
unfolding mine others
mine-others n [] = refl
mine-others n (m ∷ q) = go (eqb (aim m) n) (mine-others n q)
  where
    go : (b : Bool) → mine n q ++ others n q ≡ q → (if b then m ∷ mine n q else []) ++ (if b then others n q else m ∷ q) ≡ m ∷ q
    go true e = ap (λ l. m ∷ l) e
    go false e = refl

module _ (Q : Message → Type 0) (n : ℕ) where
  mine-each : (q : List Message) → Each Q q → Each (λ m. Q m × (aim m ≡ n)) (mine n q)
  unfolding mine
  mine-each [] h = tt
  mine-each (m ∷ q) h = go (eqb (aim m) n) refl (mine-each q h.1)
    where
      go : (b : Bool) → eqb (aim m) n ≡ b → Each (λ m. Q m × (aim m ≡ n)) (mine n q) → Each (λ m. Q m × (aim m ≡ n)) (if b then m ∷ mine n q else [])
      go true e i = ((h.0, eqb-true (aim m) n e), i)
      go false e i = tt

  others-each : (q : List Message) → Each Q q → Each Q (others n q)
  unfolding others
  others-each [] h = tt
  others-each (m ∷ q) h = go (eqb (aim m) n) (others-each q h.1)
    where
      go : (b : Bool) → Each Q (others n q) → Each Q (if b then others n q else m ∷ q)
      go true i = i
      go false i = h

-- in order of their futures
abbrev pub Sorted : ℕ → List Message → Type 0
Sorted lo [] = Unit {0}
Sorted lo (m ∷ q) = (lo ≤ aim m) × Sorted (aim m) q

others-sorted : (n : ℕ) (q : List Message) → Sorted n q → Sorted (suc n) (others n q)
unfolding others
others-sorted n [] h = tt
others-sorted n (m ∷ q) h = go (eqb (aim m) n) refl (λ s. others-sorted n q s)
  where
    later : (k : ℕ) → n ≤ k → (k ≡ n → ⊥) → suc n ≤ k
    later k i j = omega arith

    go : (b : Bool) → eqb (aim m) n ≡ b → (Sorted n q → Sorted (suc n) (others n q)) → Sorted (suc n) (if b then others n q else m ∷ q)
    go true e f = f (transp (λ i. Sorted i q) (eqb-true (aim m) n e) h.1)
    go false e f = (later (aim m) h.0 (eqb-false (aim m) n e), h.1)

-- aimed at an open future among h, the first of which has the number n
abbrev pub Opens : ℕ → List Entity → Message → Type 0
Opens n h m = (i : ℕ) → aim m ≡ n + i → (o : Entity) × (get_elem? h i ≡ some o) × (kind_of_entity o ≡ 3)

-- an entity that is no open future has none
mine-none : (n : ℕ) (o : Entity) (h : List Entity) (q : List Message) → (kind_of_entity o ≡ 3 → ⊥) → Each (Opens n (o ∷ h)) q → mine n q ≡ []
unfolding mine
mine-none n o h [] f k = refl
mine-none n o h (m ∷ q) f k = go (eqb (aim m) n) refl
  where
    go : (b : Bool) → eqb (aim m) n ≡ b → (if b then m ∷ mine n q else []) ≡ []
    go true e =
        let z = k.0 0 (eqb-true (aim m) n e ∙ sym (add-zero n)) in
        let d : z.0 ≡ o = cc in
        absurd (f (ap kind_of_entity (sym d) ∙ z.2))
    go false e = refl

queue-given : (n : ℕ) (o : Entity) (h : List Entity) (q : List Message) → EntityFits n o → Each (Opens n (o ∷ h)) q → queue (with_queue o (mine n q)) ≡ mine n q
unfolding with_queue queue kind_of_entity tag_number
queue-given n (object shared F M) h q f k = sym (mine-none n (object shared F M) h q (λ e. omega arith) k)
queue-given n (object isolated F M) h q f k = sym (mine-none n (object isolated F M) h q (λ e. omega arith) k)
queue-given n (future none r) h q f k = refl
queue-given n (future (some v) r) h q f k = f.1 ∙ sym (mine-none n (future (some v) r) h q (λ e. omega arith) k)
queue-given n (resolver i) h q f k = sym (mine-none n (resolver i) h q (λ e. omega arith) k)

-- every message is given
pub fill-queues : (h : List Entity) (n : ℕ) (q : List Message) → EntitiesFit n h → Sorted n q → Each (Opens n h) q → queues (fill n h q) ≡ q
unfolding fill queues
fill-queues [] n [] f s k = refl
fill-queues [] n (m ∷ q) f s k = let z = k.0 (aim m - n) (later (aim m) s.0) in absurd (none-some z.1)
  where
    later : (x : ℕ) → n ≤ x → x ≡ n + (x - n)
    later x i = omega arith
fill-queues (o ∷ h) n q f s k =
    let shift : (m : Message) → Opens n (o ∷ h) m → Opens (suc n) h m = λ m g i e. g (suc i) (next (aim m) i e) in
    ap₂ ◌++◌ (queue-given n o h q f.0 k)
    (fill-queues h (suc n) (others n q) f.1 (others-sorted n q s) (others-each (Opens (suc n) h) n q (each_map (Opens n (o ∷ h)) (Opens (suc n) h) shift q k)))
    ∙ mine-others n q
  where
    next : (x i : ℕ) → x ≡ suc n + i → x ≡ n + suc i
    next x i e = omega arith

-- ---- what was asked of the entities and the messages holds of them together
fits-given : (n : ℕ) (o : Entity) (q : List Message) → EntityFits n o → Each MessageFits q → EntityFits n (with_queue o (mine n q))
unfolding with_queue
fits-given n (object t F M) q f k = f
fits-given n (future none r) q f k = mine-each MessageFits n q k
fits-given n (future (some v) r) q f k = f
fits-given n (resolver i) q f k = f

pub fill-fits : (h : List Entity) (n : ℕ) (q : List Message) → EntitiesFit n h → Each MessageFits q → EntitiesFit n (fill n h q)
unfolding fill
fill-fits [] n q f k = tt
fill-fits (o ∷ h) n q f k = (fits-given n o q f.0 k, fill-fits h (suc n) (others n q) f.1 (others-each MessageFits n q k))

module _ (W : ℕ) (P : Value → Type 0) (φ : Value → Bool) (a : ℕ) where
  -- waits at the future that it is aimed at
  abbrev pub WaitsThere : Message → Type 0
  WaitsThere m = Waits W P (ref a made (aim m)) m

  waits-here : (n : ℕ) (q : List Message) → Each (λ m. WaitsThere m × (aim m ≡ n)) q → AllOf (Waits W P (ref a made n)) q
  waits-here n [] h = tt
  waits-here n (m ∷ q) h = (transp (λ i. Waits W P (ref a made i) m) h.0.1 h.0.0, waits-here n q h.1)

  holds-given : (n : ℕ) (o : Entity) (q : List Message) → IsEntity W P φ a n o → Each WaitsThere q → IsEntity W P φ a n (with_queue o (mine n q))
  unfolding with_queue
  holds-given n (object t F M) q h k = h
  holds-given n (future none r) q h k = waits-here n (mine n q) (mine-each WaitsThere n q k)
  holds-given n (future (some v) r) q h k = h
  holds-given n (resolver i) q h k = h

  pub fill_holds : (h : List Entity) (n : ℕ) (q : List Message) → EachFrom (IsEntity W P φ a) n h → Each WaitsThere q → EachFrom (IsEntity W P φ a) n (fill n h q)
  unfolding fill
  fill_holds [] n q f k = tt
  fill_holds (o ∷ h) n q f k = (holds-given n o q f.0 k, fill_holds h (suc n) (others n q) f.1 (others-each WaitsThere n q k))
