-- One slot of either series: the test answers where the methods of the entity that stands there end, by its kind, if one does. Futures and resolvers have no methods, so their answer is where they began. Assumes nothing.
use Prim.Native.Nat.{ℕ, zero, suc, ◌+◌, ◌*◌, ◌≤◌, ◌<◌, ◌/◌, ◌%◌}
use Rattle.std.specs.Prelude.{◌≡◌, Bool, false, ◌&&◌, cond, Option, Some, None, ltb, length}
use Rattle.std.proofs.Math.Path.{refl, ap}
use Rattle.std.proofs.Common.{sym, ◌∙◌}
use Rattle.std.proofs.Math.Bool.{true, not}
use Rattle.std.proofs.lemmas.Bool.{false≢true}
use mathlib.Core.List.{List, [], ◌∷◌, ◌++◌}
use Rattle.std.proofs.Math.Option.{none, some}
use Rattle.std.proofs.Math.Nat.{add-zero}
use native.Mathlib.Omega.{arith}
use borrow.Author.Tests.{eqb-true, ltb-true, eq-eqb}
use Rattle.std.proofs.Math.Dec.{eqb}
use Rattle.std.proofs.Math.ListN.{drop, get_or}
use Rattle.atlite.specs.Term.{made, Value, ref}
use Rattle.atlite.specs.State.{Message, shared, isolated, Entity, object, future, resolver, is_isolate}
use Rattle.atlite.specs.Valid.{IsEntity}
use Rattle.atlite_laws.specs.Facts.{and₂, and₃, and₄, both₂, both₃, both₄}
use Rattle.layout.specs.Numbers.{digit_limit, digits_limit, slot_unit, slot_size, slot_count}
use Rattle.layout.specs.Pack.{zeros}
use Rattle.layout.specs.Terms.{encode_value, encode_methods}
use Rattle.layout.specs.Layout.{slot_head, tag_number, slot, entity_methods}
use Rattle.layout_laws.specs.Slots.{EntityFits, head-kind}
use Rattle.layout_laws.specs.Parse.{value_at, zeros_at}
use Rattle.layout_laws.specs.ParseWords.{value-sound, value_read}
use Rattle.layout_laws.proofs.ParseMessages.{zeros-at, zeros-read}
use Rattle.layout_laws.specs.Spans.{Spans, drop-next, drop-first, span_none, span-end, span-join}
use Rattle.term_words.specs.Kinds.{kind_at, kind_of, allowed, future_by}
use Rattle.term_words.specs.Words.{within}
use Rattle.term_words.specs.WordLaws.{within-true}
use Rattle.actor.specs.Tests.{object_end, plain_at, open_at, settled_at, resolver_at, slot_forms, made_end, copied_end}
use Rattle.actor.specs.MessageTests.{some-within}
use Rattle.actor.specs.Objects.{reached-by, reached-if, head-number, span-is, Judges, Here, object-sound, object-complete}

-- ---- tests
not-false : (b : Bool) → not b ≡ true → b ≡ false
not-false true h = sym h
not-false false h = refl

false-not : (b : Bool) → b ≡ false → not b ≡ true
false-not b h = rw h

-- only so many of a series are known
kind-near : (K : List ℕ) (a n : ℕ) → (kind_at K a made n ≡ 0 → ⊥) → n < 32
unfolding kind_at
kind-near K a n h = go (ltb a 4) (ltb n 32) refl h
  where
    go : (x y : Bool) → ltb n 32 ≡ y → (cond (x && y) (get_or K (slot_count * a + n) 0) 0 ≡ 0 → ⊥) → n < 32
    go true true e h = ltb-true n 32 e
    go true false e h = absurd (h refl)
    go false y e h = absurd (h refl)

future-near : (K : List ℕ) (a n : ℕ) → future_by K (ref a made n) ≡ true → n < 32
unfolding future_by kind_of
future-near K a n h = kind-near K a n (λ z. false≢true (rw z at h))

-- a head of neither fields nor methods
plain-sum : (h k n : ℕ) → h % digit_limit ≡ k → h / digit_limit % digits_limit ≡ 0 → h / slot_unit ≡ n → slot_head k 0 0 n ≡ h
unfolding slot_head
plain-sum h k n i j o = omega arith

plain-middle : (k n : ℕ) → k < 8 → slot_head k 0 0 n / digit_limit % digits_limit ≡ 0
unfolding slot_head
plain-middle k n i = omega arith

module _ (K : List ℕ) (a W : ℕ) (w B : List ℕ) (few : W ≤ 64) where
  -- ---- futures and resolvers
  plain-sound : (k n at : ℕ) → at + slot_size ≤ length w → get_or w at 0 / slot_unit ≡ n → get_or w at 0 % digit_limit ≡ k → plain_at w at ≡ true → Spans w at (at + 2) (slot_head k 0 0 n ∷ 0 ∷ [])
  unfolding plain_at
  plain-sound k n at i num e h =
      let x = get_or w at 0 in
      let r = and₂ (eqb (x / digit_limit % digits_limit) 0) (eqb (get_or w (at + 1) 0) 0) h in
      let z = plain-sum x k n e (eqb-true (x / digit_limit % digits_limit) 0 r.0) num in
      span-join w at (at + 1) (at + 2) (slot_head k 0 0 n ∷ []) (0 ∷ [])
      (span-is w at (at + 1) (slot_head k 0 0 n) (omega arith) refl (sym z))
      (span-is w (at + 1) (at + 2) 0 (omega arith) (omega arith) (eqb-true (get_or w (at + 1) 0) 0 r.1))

  plain-complete : (k n at : ℕ) (r : List ℕ) → k < 8 → drop at w ≡ slot_head k 0 0 n ∷ 0 ∷ r
      → (get_or w at 0 / slot_unit ≡ n) × (get_or w at 0 % digit_limit ≡ k) × (plain_at w at ≡ true) × (drop (at + 2) w ≡ r)
  unfolding plain_at
  plain-complete k n at r l e =
      let h = slot_head k 0 0 n in
      let x : get_or w at 0 ≡ h = drop-first w at h (0 ∷ r) e in
      let d : drop (at + 1) w ≡ 0 ∷ r = drop-next w at h (0 ∷ r) e in
      let y : get_or w (at + 1) 0 ≡ 0 = drop-first w (at + 1) 0 r d in
      let two : at + 1 + 1 ≡ at + 2 = omega arith in (
        rw x (head-number k 0 0 n l (omega arith) (omega arith)).0,
        rw x (head-kind k 0 0 n l (omega arith) (omega arith)),
        both₂ (eq-eqb (get_or w at 0 / digit_limit % digits_limit) 0 (rw x (plain-middle k n l))) (eq-eqb (get_or w (at + 1) 0) 0 y),
        ap (λ j. drop j w) (sym two) ∙ drop-next w (at + 1) 0 r d,
      )

  here_end : (n at b e : ℕ) (o : Entity) → b ≡ e → Here K a W w B few n at b o b → Here K a W w B few n at b o e
  here_end n at b e o d h = (h.0, span-end B b b e (encode_methods (entity_methods o)) h.1 d, h.2, h.3)

  open-sound : (n at b : ℕ) → at + slot_size ≤ length w → get_or w at 0 / slot_unit ≡ n → get_or w at 0 % digit_limit ≡ 3 → open_at w at ≡ true → Here K a W w B few n at b (future none []) b
  unfolding open_at slot zeros entity_methods encode_methods
  open-sound n at b i num k h =
      let r = and₂ (plain_at w at) (zeros_at w 6 (at + 2)) h in
      let z = span-end w (at + 2) (at + 2 + 6) (at + slot_size) (zeros 6) (zeros-at w 6 (at + 2) (omega arith) r.1) (omega arith) in
      (span-join w at (at + 2) (at + slot_size) (slot_head 3 0 0 n ∷ 0 ∷ []) (zeros 6) (plain-sound 3 n at i num k r.0) z, span_none B b, tt, tt)

  open-complete : (n at : ℕ) (q : List Message) (r : List ℕ) → drop at w ≡ slot n (future none q) ++ r → (get_or w at 0 / slot_unit ≡ n) × (get_or w at 0 % digit_limit ≡ 3) × (open_at w at ≡ true)
  unfolding open_at slot zeros
  open-complete n at q r e =
      let p = plain-complete 3 n at (zeros 6 ++ r) (omega arith) e in
      (p.0, p.1, both₂ p.2 (zeros-read 6 w (at + 2) r p.3))

  -- behind a plain head, a word and five zeros
  word_sound : (k n at x : ℕ) → at + slot_size ≤ length w → get_or w at 0 / slot_unit ≡ n → get_or w at 0 % digit_limit ≡ k → plain_at w at ≡ true → get_or w (at + 2) 0 ≡ x → zeros_at w 5 (at + 3) ≡ true
      → Spans w at (at + slot_size) (slot_head k 0 0 n ∷ 0 ∷ x ∷ zeros 5)
  word_sound k n at x i num e p d z =
      let s = span-join w at (at + 2) (at + 3) (slot_head k 0 0 n ∷ 0 ∷ []) (x ∷ []) (plain-sound k n at i num e p) (span-is w (at + 2) (at + 3) x (omega arith) (omega arith) d) in
      span-join w at (at + 3) (at + slot_size) (slot_head k 0 0 n ∷ 0 ∷ x ∷ []) (zeros 5) s
      (span-end w (at + 3) (at + 3 + 5) (at + slot_size) (zeros 5) (zeros-at w 5 (at + 3) (omega arith) z) (omega arith))

  word-complete : (at x : ℕ) (r : List ℕ) → drop (at + 2) w ≡ x ∷ (zeros 5 ++ r) → (get_or w (at + 2) 0 ≡ x) × (zeros_at w 5 (at + 3) ≡ true)
  word-complete at x r e =
      let three : at + 2 + 1 ≡ at + 3 = omega arith in
      (drop-first w (at + 2) x (zeros 5 ++ r) e, zeros-read 5 w (at + 3) r (ap (λ j. drop j w) (sym three) ∙ drop-next w (at + 2) x (zeros 5 ++ r) e))

  settled-sound : (n at b : ℕ) → at + slot_size ≤ length w → get_or w at 0 / slot_unit ≡ n → get_or w at 0 % digit_limit ≡ 4 → settled_at K a w at ≡ true → (v : Value) × Here K a W w B few n at b (future (some v) []) b
  unfolding settled_at slot zeros entity_methods encode_methods within
  settled-sound n at b i num k h =
      let x = get_or w (at + 2) 0 in
      let r = and₄ (plain_at w at) (within (allowed K a) (value_at x)) (not (within (future_by K) (value_at x))) (zeros_at w 5 (at + 3)) h in
      let v = within-true (allowed K a) (value_at x) r.1 in
      let z = value-sound x v.0 v.1 in
      let no : not (within (future_by K) (some v.0)) ≡ true = rw v.1 at r.2 in
      (v.0, (word_sound 4 n at (encode_value v.0) i num k r.0 (sym z.1) r.3, span_none B b, (z.0, refl), (v.2, not-false (future_by K v.0) no, refl)))

  settled-complete : (n at : ℕ) (v : Value) (q : List Message) (r : List ℕ) → EntityFits n (future (some v) q) → IsEntity W (λ v. allowed K a v ≡ true) (future_by K) a n (future (some v) q)
      → drop at w ≡ slot n (future (some v) q) ++ r → (get_or w at 0 / slot_unit ≡ n) × (get_or w at 0 % digit_limit ≡ 4) × (settled_at K a w at ≡ true)
  unfolding settled_at slot zeros within
  settled-complete n at v q r f h e =
      let x = encode_value v in
      let p = plain-complete 4 n at (x ∷ (zeros 5 ++ r)) (omega arith) e in
      let d = word-complete at x r p.3 in
      let z : value_at (get_or w (at + 2) 0) ≡ some v = ap value_at d.0 ∙ value_read v f.0 in
      (p.0, p.1, both₄ p.2 (some-within (allowed K a) (value_at (get_or w (at + 2) 0)) v z h.0) (rw z (false-not (future_by K v) h.1)) d.1)

  resolver-sound : (n at b : ℕ) → at + slot_size ≤ length w → get_or w at 0 / slot_unit ≡ n → get_or w at 0 % digit_limit ≡ 5 → resolver_at K a w at ≡ true → Here K a W w B few n at b (resolver (get_or w (at + 2) 0)) b
  unfolding resolver_at slot zeros entity_methods encode_methods
  resolver-sound n at b i num k h =
      let x = get_or w (at + 2) 0 in
      let r = and₃ (plain_at w at) (future_by K (ref a made x)) (zeros_at w 5 (at + 3)) h in
      let l = future-near K a x r.1 in
      (word_sound 5 n at x i num k r.0 refl r.2, span_none B b, omega arith, r.1)

  resolver-complete : (n at k : ℕ) (r : List ℕ) → future_by K (ref a made k) ≡ true → drop at w ≡ slot n (resolver k) ++ r
      → (get_or w at 0 / slot_unit ≡ n) × (get_or w at 0 % digit_limit ≡ 5) × (resolver_at K a w at ≡ true)
  unfolding resolver_at slot zeros
  resolver-complete n at k r h e =
      let p = plain-complete 5 n at (k ∷ (zeros 5 ++ r)) (omega arith) e in
      let d = word-complete at k r p.3 in
      (p.0, p.1, both₃ p.2 (rw d.0 h) d.1)

  -- ---- all kinds
  module _ (f g : ℕ → ℕ → Option ℕ) (jf : Judges K a W w B few shared f) (jg : Judges K a W w B few isolated g) where
    pub made-sound : (n at b e : ℕ) → at + slot_size ≤ length w → made_end K a W w f g n at b ≡ Some e → (o : Entity) × Here K a W w B few n at b o e
    unfolding made_end tag_number
    made-sound n at b e i h =
        let x = get_or w at 0 in
        let m = x / digits_limit % digit_limit in
        let r = reached-if (eqb (x / slot_unit) n) (get_or (slot_forms K a W w f g m at b) (x % digit_limit) None) e h in
        go (x % digit_limit) refl (eqb-true (x / slot_unit) n r.0) r.1
      where
        go : (k : ℕ) → get_or w at 0 % digit_limit ≡ k → get_or w at 0 / slot_unit ≡ n → get_or (slot_forms K a W w f g (get_or w at 0 / digits_limit % digit_limit) at b) k None ≡ Some e → (o : Entity) × Here K a W w B few n at b o e
        go zero k num h = cc
        go (suc zero) k num h = let r = object-sound K a W w B few shared f jf n at b e i num k h in (object shared r.0 r.1, r.2)
        go (suc (suc zero)) k num h = let r = object-sound K a W w B few isolated g jg n at b e i num k h in (object isolated r.0 r.1, r.2)
        go (suc (suc (suc zero))) k num h = let t = reached-by (open_at w at) b e h in (future none [], here_end n at b e (future none []) t.1 (open-sound n at b i num k t.0))
        go (suc (suc (suc (suc zero)))) k num h =
            let t = reached-by (settled_at K a w at) b e h in let r = settled-sound n at b i num k t.0 in (future (some r.0) [], here_end n at b e (future (some r.0) []) t.1 r.1)
        go (suc (suc (suc (suc (suc zero))))) k num h =
            let t = reached-by (resolver_at K a w at) b e h in (resolver (get_or w (at + 2) 0), here_end n at b e (resolver (get_or w (at + 2) 0)) t.1 (resolver-sound n at b i num k t.0))
        go (suc (suc (suc (suc (suc (suc k)))))) d num h = cc

    -- in a table of answers
    made_by : (n at b k e : ℕ) → get_or w at 0 / slot_unit ≡ n → get_or w at 0 % digit_limit ≡ k → get_or (slot_forms K a W w f g (get_or w at 0 / digits_limit % digit_limit) at b) k None ≡ Some e → made_end K a W w f g n at b ≡ Some e
    unfolding made_end
    made_by n at b k e num d h = rw (eq-eqb (get_or w at 0 / slot_unit) n num, d) h

    pub made-complete : (n at b e : ℕ) (o : Entity) → Here K a W w B few n at b o e → made_end K a W w f g n at b ≡ Some e
    unfolding tag_number entity_methods encode_methods
    made-complete n at b e (object shared F M) h = let r = object-complete K a W w B few shared f jf n at b e F M h in made_by n at b 1 e r.0 r.1 r.2
    made-complete n at b e (object isolated F M) h = let r = object-complete K a W w B few isolated g jg n at b e F M h in made_by n at b 2 e r.0 r.1 r.2
    made-complete n at b e (future none q) h =
        let r = open-complete n at q (drop (at + slot_size) w) h.0.0 in made_by n at b 3 e r.0 r.1 (rw r.2 (ap Some (sym (h.1.1 ∙ add-zero b))))
    made-complete n at b e (future (some v) q) h =
        let r = settled-complete n at v q (drop (at + slot_size) w) h.2 h.3 h.0.0 in made_by n at b 4 e r.0 r.1 (rw r.2 (ap Some (sym (h.1.1 ∙ add-zero b))))
    made-complete n at b e (resolver k) h =
        let r = resolver-complete n at k (drop (at + slot_size) w) h.3 h.0.0 in made_by n at b 5 e r.0 r.1 (rw r.2 (ap Some (sym (h.1.1 ∙ add-zero b))))

    -- ---- series c: isolates alone
    pub copied-sound : (n at b e : ℕ) → at + slot_size ≤ length w → copied_end K a W w f g n at b ≡ Some e → (o : Entity) × Here K a W w B few n at b o e × (is_isolate o ≡ true)
    unfolding copied_end tag_number is_isolate
    copied-sound n at b e i h =
        let x = get_or w at 0 in
        let r = reached-if (eqb (x / slot_unit) n && eqb (x % digit_limit) 2) (object_end K a W w at b (g (x / digits_limit % digit_limit) b)) e h in
        let t = and₂ (eqb (x / slot_unit) n) (eqb (x % digit_limit) 2) r.0 in
        let s = object-sound K a W w B few isolated g jg n at b e i (eqb-true (x / slot_unit) n t.0) (eqb-true (x % digit_limit) 2 t.1) r.1 in
        (object isolated s.0 s.1, s.2, refl)

    pub copied-complete : (n at b e : ℕ) (o : Entity) → Here K a W w B few n at b o e → is_isolate o ≡ true → copied_end K a W w f g n at b ≡ Some e
    unfolding copied_end tag_number is_isolate
    copied-complete n at b e (object shared F M) h i = absurd (false≢true i)
    copied-complete n at b e (object isolated F M) h i =
        let x = get_or w at 0 in
        let r = object-complete K a W w B few isolated g jg n at b e F M h in rw (eq-eqb (x / slot_unit) n r.0, eq-eqb (x % digit_limit) 2 r.1) r.2
    copied-complete n at b e (future v q) h i = absurd (false≢true i)
    copied-complete n at b e (resolver k) h i = absurd (false≢true i)
