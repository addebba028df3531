-- Messages that wait in order are those of a heap's queues, and the other way round. The slots tell which entities are open futures.
-- Assumes nothing.
use Prim.Native.Nat.{ℕ, suc, ◌+◌, ◌*◌, ◌≤◌, ◌<◌, ◌%◌}
use Rattle.std.specs.Prelude.{◌≡◌, refl, length}
use Rattle.std.proofs.Math.Path.{sym, ap}
use Rattle.std.proofs.Common.{◌∙◌, add-zero}
use mathlib.Core.List.{List, [], ◌∷◌, ◌++◌}
use Rattle.std.proofs.Math.Option.{none, some}
use native.Mathlib.Omega.{arith}
use Rattle.std.proofs.Math.ListN.{get_or, get_elem?}
use Rattle.atlite.specs.Term.{made, Value, ref}
use Rattle.atlite.specs.State.{Message, message, Entity, object, future, resolver}
use Rattle.atlite.specs.Valid.{AllOf, Waits, IsEntity}
use Rattle.atlite_laws.specs.Facts.{get-below}
use Rattle.invariant.specs.TermTests.{Is}
use Rattle.layout.specs.Numbers.{owner_limit, digit_limit, slot_size, made_at}
use Rattle.layout_laws.specs.PackLaws.{Each}
use Rattle.layout.specs.Layout.{queue, queues}
use Rattle.decoding.specs.Decode.{aim, aim_of}
use Rattle.layout_laws.specs.Slots.{EntityFits, EntitiesFit, kind_of_entity}
use Rattle.term_words.specs.Kinds.{allowed, future_by}
use Rattle.actor.specs.Series.{EachFrom}
use Rattle.actor.specs.Queues.{Sorted, Opens, WaitsThere}
use Rattle.actor.specs.Messages.{Ordered}

module _ (K : List ℕ) (a W : ℕ) (w : List ℕ) (l : a < owner_limit) where
  abbrev P : Value → Type 0
  P = Is (allowed K a)

  -- the slots of h, the first of number n, say their kinds
  abbrev pub Kinds : ℕ → List Entity → Type 0
  Kinds n h = (i : ℕ) (o : Entity) → get_elem? h i ≡ some o → get_or w (made_at + slot_size * (n + i)) 0 % digit_limit ≡ kind_of_entity o

  -- ---- from the words to a heap
  pub ordered-sorted : (M lo : ℕ) (q : List Message) → Ordered K a W w l M lo q → Sorted lo q
  unfolding aim
  ordered-sorted M lo [] h = tt
  ordered-sorted M lo (message v m vs ∷ q) h = (h.0.1, ordered-sorted M (aim_of v) q h.1)

  pub ordered-waits : (M lo : ℕ) (q : List Message) → Ordered K a W w l M lo q → Each (WaitsThere W P (future_by K) a) q
  unfolding aim
  ordered-waits M lo [] h = tt
  ordered-waits M lo (message v m vs ∷ q) h = ((h.0.0, h.0.4), ordered-waits M (aim_of v) q h.1)

  pub ordered-opens : (h : List Entity) (lo : ℕ) (q : List Message) → Kinds 0 h → Ordered K a W w l (length h) lo q → Each (Opens 0 h) q
  unfolding aim
  ordered-opens h lo [] k o = tt
  ordered-opens h lo (message v m vs ∷ q) k o = (here, ordered-opens h (aim_of v) q k o.1)
    where
      here : (i : ℕ) → aim_of v ≡ 0 + i → (u : Entity) × (get_elem? h i ≡ some u) × (kind_of_entity u ≡ 3)
      here i e =
          let z : aim_of v ≡ i = omega arith in
          let b = o.0.2 in
          let g = get-below h i (resolver 0) (omega arith) in
          let y : 0 + i ≡ aim_of v = omega arith in
          (get_or h i (resolver 0), g, sym (k i (get_or h i (resolver 0)) g) ∙ ap (λ j. get_or w (made_at + slot_size * j) 0 % digit_limit) y ∙ o.0.3)

  -- ---- from a heap to the words
  queue-ordered : (n M lo : ℕ) (q r : List Message) → AllOf (Waits W P (ref a made n)) q → lo ≤ n → n < M → get_or w (made_at + slot_size * n) 0 % digit_limit ≡ 3
      → ((k : ℕ) → k ≤ suc n → Ordered K a W w l M k r) → Ordered K a W w l M lo (q ++ r)
  unfolding aim aim_of
  queue-ordered n M lo [] r h i j k rest = rest lo (omega arith)
  queue-ordered n M lo (message v m vs ∷ q) r h i j k rest =
      let z : aim_of v ≡ n = ap aim_of h.0.0 in
      rw z (
        (h.0.0, i, j, k, h.0.1),
        queue-ordered n M n q r h.1 (omega arith) j k rest,
      )

  pub queues-ordered : (h : List Entity) (n lo M : ℕ) → EntitiesFit n h → EachFrom (IsEntity W P (future_by K) a) n h → Kinds n h → n + length h ≤ M → lo ≤ n → Ordered K a W w l M lo (queues h)
  unfolding queues queue kind_of_entity
  queues-ordered [] n lo M f g k i j = tt
  queues-ordered (o ∷ h) n lo M f g k i j = go o (k 0 o refl) f.0 g.0
      (λ b d. queues-ordered h (suc n) b M f.1 g.1 (λ x u e. let z : n + suc x ≡ suc n + x = omega arith in rw z at (k (suc x) u e)) (omega arith) d)
    where
      go : (o : Entity) → get_or w (made_at + slot_size * (n + 0)) 0 % digit_limit ≡ kind_of_entity o → EntityFits n o → IsEntity W P (future_by K) a n o → ((b : ℕ) → b ≤ suc n → Ordered K a W w l M b (queues h)) → Ordered K a W w l M lo (queue o ++ queues h)
      go (object t F X) c e d rest = rest lo (omega arith)
      go (future none q) c e d rest = queue-ordered n M lo q (queues h) d j (omega arith) (rw (add-zero n) at c) rest
      go (future (some v) q) c e d rest = rw e.1 (rest lo (omega arith))
      go (resolver x) c e d rest = rest lo (omega arith)
