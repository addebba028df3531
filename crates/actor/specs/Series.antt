-- The slots of a series, one behind the other: the test answers where the methods of all of them end just where such entities stand.
-- Said for whatever judges one slot (f) by whatever is asked of an entity (E). Assumes nothing.
use Prim.Native.Nat.{ℕ, zero, suc, ◌+◌, ◌*◌, ◌≤◌}
use Rattle.std.specs.Prelude.{◌≡◌, Option as Maybe, Some, None}
use Rattle.std.specs.Option.{option_and_then}
use Rattle.std.proofs.lemmas.Option.{same_Some}
use Rattle.std.proofs.Math.Path.{refl, ap}
use Rattle.std.proofs.Common.{sym, ◌∙◌, subst as transp, arith, length-append}
use mathlib.Core.List.{List, [], ◌∷◌, ◌++◌, append_assoc}
use Rattle.std.proofs.Math.Option.{some}
use Rattle.std.proofs.Math.ListN.{length, drop, get_elem?}
use Rattle.atlite.specs.State.{Entity}
use Rattle.atlite.specs.Valid.{Each}
use Rattle.atlite_laws.specs.Facts.{none-some}
use Rattle.layout.specs.Numbers.{slot_size}
use Rattle.layout.specs.Terms.{encode_methods}
use Rattle.layout.specs.Layout.{slot, slots, entity_methods, bodies}
use Rattle.layout_laws.specs.Slots.{EntityFits, EntitiesFit, slot-length}
use Rattle.layout_laws.specs.Spans.{Spans, drop_past, span_of, span_none, span-end, span-join}
use Rattle.actor.specs.Tests.{slots_end}

-- of each, with its number from n on
abbrev pub EachFrom : (ℕ → Entity → Type 0) → ℕ → List Entity → Type 0
EachFrom E n [] = Unit {0}
EachFrom E n (o ∷ h) = E n o × EachFrom E (suc n) h

module _ (E : ℕ → Entity → Type 0) where
  pub from_each : (h : List Entity) (k n : ℕ) (o : Entity) → EachFrom E k h → get_elem? h n ≡ some o → E (k + n) o
  from_each [] k n o f e = absurd (none-some e)
  from_each (u ∷ h) k zero o f e =
      let q : u ≡ o = cc in
      let z : k ≡ k + 0 = omega arith in
      transp (λ i. E i o) z (transp (E k) q f.0)
  from_each (u ∷ h) k (suc n) o f e = let z : suc k + n ≡ k + suc n = omega arith in transp (λ i. E i o) z (from_each h (suc k) n o f.1 e)

  pub each_from : (h : List Entity) (k : ℕ) → ((n : ℕ) (o : Entity) → get_elem? h n ≡ some o → E (k + n) o) → EachFrom E k h
  each_from [] k f = tt
  each_from (u ∷ h) k f =
      let z : k + 0 ≡ k = omega arith in
      (transp (λ i. E i u) z (f 0 u refl), each_from h (suc k) (λ n o e. let q : k + suc n ≡ suc k + n = omega arith in transp (λ i. E i o) q (f (suc n) o e)))

  pub each-whole : (h : List Entity) → EachFrom E 0 h → Each E h
  each-whole h f n o e = let z : 0 + n ≡ n = omega arith in transp (λ i. E i o) z (from_each h 0 n o f e)

  pub whole_each : (h : List Entity) → Each E h → EachFrom E 0 h
  whole_each h f = each_from h 0 (λ n o e. let z : n ≡ 0 + n = omega arith in transp (λ i. E i o) z (f n o e))

-- two spans in one
pub span-split : (w : List ℕ) (at m i : ℕ) (xs ys : List ℕ) → at + length xs ≡ m → Spans w at i (xs ++ ys) → Spans w at m xs × Spans w m i ys
span-split w at m i xs ys z h =
    let e : drop at w ≡ xs ++ (ys ++ drop i w) = h.0 ∙ append_assoc xs ys (drop i w) in
    let t : drop m w ≡ ys ++ drop i w = ap (λ k. drop k w) (sym z) ∙ drop_past w at xs (ys ++ drop i w) e in
    (span-end w at (at + length xs) m xs (span_of w at xs (ys ++ drop i w) e) z, (t, omega (arith, h.1, length-append xs ys)))

module _ (w B : List ℕ) (E : ℕ → Entity → Type 0) where
  -- the n-th entity of the series, in the slot at `at`, its methods from b to e
  abbrev pub Stands : ℕ → ℕ → ℕ → Entity → ℕ → Type 0
  Stands n at b o e = Spans w at (at + slot_size) (slot n o) × Spans B b e (encode_methods (entity_methods o)) × EntityFits n o × E n o

  -- k entities from the n-th on
  abbrev pub SeriesIs : ℕ → ℕ → ℕ → ℕ → ℕ → List Entity → Type 0
  SeriesIs k n at b e h = (length h ≡ k) × Spans w at (at + slot_size * k) (slots n h) × Spans B b e (bodies h) × EntitiesFit n h × EachFrom E n h

  module _ (f : ℕ → ℕ → ℕ → Maybe ℕ) where
    module _ (sound : (n at b e : ℕ) → at + slot_size ≤ length w → f n at b ≡ Some e → (o : Entity) × Stands n at b o e) where
      pub slots-sound : (k n at b e : ℕ) → at + slot_size * k ≤ length w → slots_end f k n at b ≡ Some e → (h : List Entity) × SeriesIs k n at b e h
      unfolding slots_end slots bodies
      slots-sound zero n at b e i h =
          let q = same_Some b e h in ([], (refl, span-end w at at (at + slot_size * 0) [] (span_none w at) (omega arith), span-end B b b e [] (span_none B b) q, tt, tt))
      slots-sound (suc k) n at b e i h = go (λ x r. slots-sound k (suc n) (at + slot_size) x e (omega arith) r) (f n at b) refl h
        where
          go : ((x : ℕ) → slots_end f k (suc n) (at + slot_size) x ≡ Some e → (h : List Entity) × SeriesIs k (suc n) (at + slot_size) x e h) → (u : Maybe ℕ) → f n at b ≡ u
              → option_and_then (slots_end f k (suc n) (at + slot_size)) u ≡ Some e → (h : List Entity) × SeriesIs (suc k) n at b e h
          go rec None d h = cc
          go rec (Some x) d h =
              let o = sound n at b x (omega arith) d in
              let s = rec x h in (
                o.0 ∷ s.0,
                (
                  ap suc s.1.0,
                  span-end w at (at + slot_size + slot_size * k) (at + slot_size * suc k) (slot n o.0 ++ slots (suc n) s.0) (span-join w at (at + slot_size) (at + slot_size + slot_size * k) (slot n o.0) (slots (suc n) s.0) o.1.0 s.1.1) (omega arith),
                  span-join B b x e (encode_methods (entity_methods o.0)) (bodies s.0) o.1.1 s.1.2,
                  (o.1.2, s.1.3),
                  (o.1.3, s.1.4),
                ),
              )

    module _ (complete : (n at b e : ℕ) (o : Entity) → Stands n at b o e → f n at b ≡ Some e) where
      pub slots-complete : (h : List Entity) (n at b e : ℕ) (r : List ℕ) → drop at w ≡ slots n h ++ r → Spans B b e (bodies h) → EntitiesFit n h → EachFrom E n h
          → slots_end f (length h) n at b ≡ Some e
      unfolding slots_end slots bodies
      slots-complete [] n at b e r d s g k = ap Some (omega (arith, s.1))
      slots-complete (o ∷ h) n at b e r d s g k =
          let x = slot n o in
          let y = encode_methods (entity_methods o) in
          let m = b + length y in
          let c : drop at w ≡ x ++ (slots (suc n) h ++ r) = d ∙ append_assoc x (slots (suc n) h) r in
          let eight = slot-length n o g.0 in
          let t : Spans w at (at + slot_size) x = span-end w at (at + length x) (at + slot_size) x (span_of w at x (slots (suc n) h ++ r) c) (omega arith) in
          let c8 : drop (at + slot_size) w ≡ slots (suc n) h ++ r = rw eight at (drop_past w at x (slots (suc n) h ++ r) c) in
          let u = span-split B b m e y (bodies h) refl s in
          let here : f n at b ≡ Some m = complete n at b m o (t, u.0, g.0, k.0) in
          rw here (slots-complete h (suc n) (at + slot_size) m e r c8 u.1 g.1 k.1)
