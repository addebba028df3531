-- Two lists of entries, each a move of one actor: the theorem in the words of the scope. Assumes nothing.
use Rattle.std.specs.Prelude.{◌≡◌, refl, Bool, true, false, cond, List, [], ◌∷◌, map, ℕ, zero, suc, replicate, eqb}
use Rattle.std.proofs.Common.{sym, ap, ◌∙◌}
use Rattle.std.proofs.Math.Option.{Option, none, some}
use Rattle.channels.specs.Machine.{push, order, Leads, moved, ends, same_ends}
use Rattle.channels.specs.Actors.{Kind, Actors, Laws, sent_to, is_made, eqb-true}
use Rattle.channels.specs.ActorMachine.{free, Chan, self, box, maker, Name, by, from, uses, only, machine}

module _ {L P Q : Type 0} where
  -- how many moves actor a made
  abbrev pub count : ℕ → List (ℕ × Kind L P Q) → ℕ
  count a [] = zero
  count a (m ∷ t) = cond (eqb m.0 a) (suc (count a t)) (count a t)

  -- who sent to the inbox of r, in order
  abbrev pub senders : ℕ → List (ℕ × Kind L P Q) → List ℕ
  senders r [] = []
  senders r (m ∷ t) = cond (sent_to r m.1) (m.0 ∷ senders r t) (senders r t)

  -- who created the new actors, in order
  abbrev pub creators : List (ℕ × Kind L P Q) → List ℕ
  creators [] = []
  creators (m ∷ t) = cond (is_made m.1) (m.0 ∷ creators t) (creators t)

  -- an entry of a list: its move, or nothing where it is refused
  abbrev pub entry : ℕ → List L → Option (Kind L P Q × List L) → List (ℕ × Kind L P Q) × List L
  entry a s none = ([], s)
  entry a s (some r) = ((a, r.0) ∷ [], r.1)

  -- an actor's moves, each of its own alone
  abbrev pub solo : L → (ℕ → List L → Option (Kind L P Q × L)) → (P → L → L) → (List L → Type 0) → (L → L → Type 0) → Actors ℕ L P Q
  solo blank local deliver Inv Grows = record {
    blank = blank;
    actor = λ a. a;
    sender = λ a. a;
    parts = λ a i. eqb a i;
    local = local;
    deliver = deliver;
    Inv = Inv;
    Grows = Grows;
  }

map_push : (b : Bool) (a : ℕ) (r : List ℕ) → ◌≡◌ {A = List (Name ℕ)} (push (only b (from a)) (map from r)) (map from (cond b (a ∷ r) r))
map_push true a r = refl
map_push false a r = refl

module _ {L P Q : Type 0} (blank : L) (local : ℕ → List L → Option (Kind L P Q × L)) (deliver : P → L → L)
    (Inv : List L → Type 0) (Grows : L → L → Type 0) (law : Laws ℕ L P Q (solo blank local deliver Inv Grows)) where
  abbrev A : Actors ℕ L P Q
  A = solo blank local deliver Inv Grows

  self-order : (a : ℕ) (t : List (ℕ × Kind L P Q)) → order (uses A) (self a) t ≡ replicate (count a t) (by a)
  self-order a [] = refl
  self-order a (m ∷ t) = go (self-order a t) (eqb m.0 a) refl
    where
      go : order (uses A) (self a) t ≡ replicate (count a t) (by a) → (b : Bool) → eqb m.0 a ≡ b
          → push (only b (by m.0)) (order (uses A) (self a) t) ≡ replicate (cond b (suc (count a t)) (count a t)) (by a)
      go ih true e = rw (ih, eqb-true m.0 a e)
      go ih false e = ih

  box-order : (r : ℕ) (t : List (ℕ × Kind L P Q)) → order (uses A) (box r) t ≡ map from (senders r t)
  box-order r [] = refl
  box-order r (m ∷ t) = rw (box-order r t) (map_push (sent_to r m.1) m.0 (senders r t))

  maker-order : (t : List (ℕ × Kind L P Q)) → order (uses A) maker t ≡ map from (creators t)
  maker-order [] = refl
  maker-order (m ∷ t) = rw (maker-order t) (map_push (is_made m.1) m.0 (creators t))

  -- Demand 3 for any calls whose moves are free moves. Two lists of calls from one state: if each actor has as many moves in
  -- both, each inbox the same order of senders, and the new actors the same order of creators, then the ends are equal.
  pub schedules : {Call : Type 0} (does : Call → List L → List (ℕ × Kind L P Q) × List L)
      → ((c : Call) (s : List L) → Inv s → Leads (free A) s (does c s).0 (does c s).1)
      → (cs ds : List Call) (s : List L) → Inv s
      → ((a : ℕ) → count a (moved does cs s) ≡ count a (moved does ds s))
      → ((r : ℕ) → senders r (moved does cs s) ≡ senders r (moved does ds s))
      → creators (moved does cs s) ≡ creators (moved does ds s)
      → ends does cs s ≡ ends does ds s
  schedules does fr cs ds s i h₁ h₂ h₃ = same_ends (machine A law) does fr cs ds s i orders
    where
      orders : (c : Chan) → order (uses A) c (moved does cs s) ≡ order (uses A) c (moved does ds s)
      orders (self a) = self-order a (moved does cs s) ∙ ap (λ n. replicate n (by a)) (h₁ a) ∙ sym (self-order a (moved does ds s))
      orders (box r) = box-order r (moved does cs s) ∙ ap (map from) (h₂ r) ∙ sym (box-order r (moved does ds s))
      orders maker = maker-order (moved does cs s) ∙ ap (map from) h₃ ∙ sym (maker-order (moved does ds s))

  -- The engine's own step refuses more, and moves as the free machine does: an entry, and a run of entries, make free moves.
  module _ (step : ℕ → List L → Option (Kind L P Q × List L))
      (sound : (a : ℕ) (s : List L) (r : Kind L P Q × List L) → Inv s → step a s ≡ some r → free A a s ≡ some r) where
    pub entry_free : (a : ℕ) (s : List L) → Inv s → Leads (free A) s (entry a s (step a s)).0 (entry a s (step a s)).1
    entry_free a s i = go (step a s) refl
      where
        go : (o : Option (Kind L P Q × List L)) → step a s ≡ o → Leads (free A) s (entry a s o).0 (entry a s o).1
        go none e = refl
        go (some r) e = (r.1, (sound a s r i e, refl))
