-- The messages of an inbox, and those that wait: the tests are true just where such messages stand one behind the other. Those that
-- wait stand in order of their futures, each at an open future of series m. Assumes nothing.
use Prim.Native.Nat.{ℕ, zero, suc, ◌+◌, ◌*◌, ◌≤◌, ◌<◌, ◌/◌, ◌%◌}
use Rattle.std.specs.Prelude.{◌≡◌, true, eqb, ltb, leb}
use Rattle.std.proofs.Math.Path.{refl, ap}
use Rattle.std.proofs.Common.{sym, ◌∙◌, arith}
use mathlib.Core.List.{List, [], ◌∷◌, ◌++◌, append_assoc}
use Rattle.std.proofs.Math.Option.{some}
use borrow.Author.Tests.{eqb-true, ltb-true, leb-true, eq-eqb, lt-ltb, le-leb}
use Rattle.std.proofs.Math.ListN.{length, drop, get_or}
use Rattle.atlite.specs.Term.{made, Value, null, num, ref}
use Rattle.atlite.specs.State.{Message, message}
use Rattle.atlite.specs.Valid.{AllOf, Sendable, OwnValue, Arrived}
use Rattle.atlite_laws.specs.Facts.{and₂, and₃, and₅, both₂, both₃, both₄}
use Rattle.invariant.specs.TermTests.{Is, all-is, is_all}
use Rattle.layout.specs.Numbers.{payload, number_limit, owner_unit, owner_limit, digit_limit, message_size, slot_size, made_at}
use Rattle.layout.specs.Pack.{flat}
use Rattle.layout_laws.specs.PackLaws.{pack-low, pack-high, Each}
use Rattle.layout.specs.Terms.{encode_value, series_bit}
use Rattle.layout_laws.specs.TermLaws.{ValueFits}
use Rattle.layout_laws.specs.TermReads.{bit}
use Rattle.layout.specs.Layout.{encode_message}
use Rattle.decoding.specs.Decode.{aim, aim_of}
use Rattle.layout_laws.specs.Slots.{MessageFits, message-length}
use Rattle.layout_laws.specs.Parse.{value_at}
use Rattle.layout_laws.specs.ParseWords.{value-sound, value_read}
use Rattle.layout_laws.specs.ParseMessages.{MessageAt}
use Rattle.layout_laws.specs.Spans.{Spans, drop_past, span_none, span-end, span_of, span-inside, span-join}
use Rattle.term_words.specs.Kinds.{allowed}
use Rattle.term_words.specs.Words.{within}
use Rattle.term_words.specs.WordLaws.{within-true}
use Rattle.actor.specs.Tests.{sent_at, arrived_at, arrivals_at, waits_at, waiters_at}
use Rattle.actor.specs.MessageTests.{some-within, sent-sound, sent-complete}

-- ---- receivers
-- an actor's own, told from the word alone
own-word : (a x : ℕ) (v : Value) → a < owner_limit → ValueFits v → encode_value v ≡ x → x / owner_unit ≡ 384 + a → OwnValue a v
unfolding encode_value
own-word a x null l f e h = let z : x ≡ payload = sym e in omega arith
own-word a x (num n) l f e h = let z : n + 2 * payload ≡ x = e in omega arith
own-word a x (ref b s n) l f e h =
    let z : n + number_limit * (series_bit s + 2 * b) + 3 * payload ≡ x = e in
    let t = bit s in
    let i = f.0 in
    omega arith

word-own : (a : ℕ) (v : Value) → ValueFits v → OwnValue a v → encode_value v / owner_unit ≡ 384 + a
unfolding encode_value
word-own a null f h = absurd h
word-own a (num n) f h = absurd h
word-own a (ref b s n) f h =
    let t = bit s in
    let i = f.0 in
    let z : n + number_limit * (series_bit s + 2 * b) + payload * 3 ≡ n + number_limit * series_bit s + owner_unit * (384 + a) = omega arith in
    ap (λ k. k / owner_unit) z ∙ pack-high owner_unit (n + number_limit * series_bit s) (384 + a) (omega arith)

-- a future of series m
future-word : (a x : ℕ) → a < owner_limit → x / number_limit ≡ 768 + 2 * a → value_at x ≡ some (ref a made (x % number_limit))
unfolding encode_value series_bit
future-word a x l h =
    let z : encode_value (ref a made (x % number_limit)) ≡ x = omega arith in
    ap value_at (sym z) ∙ value_read (ref a made (x % number_limit)) (omega arith, l)

word-future : (a n : ℕ) → n < number_limit → (encode_value (ref a made n) / number_limit ≡ 768 + 2 * a) × (encode_value (ref a made n) % number_limit ≡ n)
unfolding encode_value series_bit
word-future a n l =
    let z : n + number_limit * (0 + 2 * a) + payload * 3 ≡ n + number_limit * (768 + 2 * a) = omega arith in
    (ap (λ k. k / number_limit) z ∙ pack-high number_limit n (768 + 2 * a) l, ap (λ k. k % number_limit) z ∙ pack-low number_limit n (768 + 2 * a) l)

-- ---- lists of messages
module _ (w : List ℕ) where
  -- one in front of others
  messages-more : (at c : ℕ) (m : Message) (q : List Message) → MessageAt w at m (at + message_size) → Spans w (at + message_size) (at + message_size + message_size * c) (flat encode_message q)
      → Spans w at (at + message_size * suc c) (flat encode_message (m ∷ q))
  unfolding flat
  messages-more at c m q h k =
      span-end w at (at + message_size + message_size * c) (at + message_size * suc c) (encode_message m ++ flat encode_message q)
      (span-join w at (at + message_size) (at + message_size + message_size * c) (encode_message m) (flat encode_message q) h.1 k) (omega arith)

  -- the first, and where the others stand
  messages-first : (at : ℕ) (m : Message) (q : List Message) (r : List ℕ) → MessageFits m → drop at w ≡ flat encode_message (m ∷ q) ++ r
      → (drop at w ≡ encode_message m ++ (flat encode_message q ++ r)) × (at + message_size ≤ length w) × (drop (at + message_size) w ≡ flat encode_message q ++ r)
  unfolding flat
  messages-first at m q r f e =
      let x = encode_message m in
      let y = flat encode_message q ++ r in
      let d : drop at w ≡ x ++ y = e ∙ append_assoc x (flat encode_message q) r in
      let l = message-length m f in
      let i = span-inside w at (at + length x) x (span_of w at x y d) (omega arith) in
      (d, omega (arith, i.1), rw l at (drop_past w at x y d))

module _ (K : List ℕ) (a W : ℕ) (w : List ℕ) (l : a < owner_limit) where
  abbrev P : Value → Type 0
  P = Is (allowed K a)

  -- ---- the inbox
  arrived-sound : (at : ℕ) → at + message_size ≤ length w → arrived_at K a W w at ≡ true → (m : Message) × MessageAt w at m (at + message_size) × Arrived W P a m
  unfolding arrived_at
  arrived-sound at i h =
      let x = get_or w (at + 1) 0 in
      let r = and₃ (eqb (x / owner_unit) (384 + a)) (within (allowed K a) (value_at x)) (sent_at K a W w at) h in
      let v = within-true (allowed K a) (value_at x) r.1 in
      let z = value-sound x v.0 v.1 in
      let s = sent-sound K a W w at v.0 i v.1 r.2 in
      (message v.0 s.0 s.1, s.2.0, (own-word a x v.0 l z.0 z.1 (eqb-true (x / owner_unit) (384 + a) r.0), v.2, (s.2.1, all-is (allowed K a) P (λ y k. k) s.1 s.2.2)))

  arrived-complete : (at : ℕ) (m : Message) (r : List ℕ) → at + message_size ≤ length w → MessageFits m → drop at w ≡ encode_message m ++ r → Arrived W P a m → arrived_at K a W w at ≡ true
  unfolding arrived_at
  arrived-complete at (message v m vs) r i f e h =
      let x = get_or w (at + 1) 0 in
      let s = sent-complete K a W w at v m vs r i f e h.2.0 (is_all (allowed K a) P (λ y k. k) vs h.2.1) in
      let z = value-sound x v s.0 in
      let o : x / owner_unit ≡ 384 + a = ap (λ k. k / owner_unit) (sym z.1) ∙ word-own a v f.0 h.0 in
      both₃ (eq-eqb (x / owner_unit) (384 + a) o) (some-within (allowed K a) (value_at x) v s.0 h.1) s.1

  -- so many messages of an inbox from one position to another
  abbrev pub InboxIs : ℕ → ℕ → List Message → Type 0
  InboxIs c at q = (length q ≡ c) × Spans w at (at + message_size * c) (flat encode_message q) × Each MessageFits q × AllOf (Arrived W P a) q

  pub inbox-sound : (c at : ℕ) → at + message_size * c ≤ length w → arrivals_at K a W w c at ≡ true → (q : List Message) × InboxIs c at q
  unfolding arrivals_at flat
  inbox-sound zero at i h = ([], (refl, span-end w at at (at + message_size * 0) [] (span_none w at) (omega arith), tt, tt))
  inbox-sound (suc c) at i h =
      let r = and₂ (arrived_at K a W w at) (arrivals_at K a W w c (at + message_size)) h in
      let m = arrived-sound at (omega arith) r.0 in
      let q = inbox-sound c (at + message_size) (omega arith) r.1 in
      (m.0 ∷ q.0, (ap suc q.1.0, messages-more w at c m.0 q.0 m.1 q.1.1, (m.1.0, q.1.2), (m.2, q.1.3)))

  pub inbox-complete : (q : List Message) (at : ℕ) (r : List ℕ) → drop at w ≡ flat encode_message q ++ r → Each MessageFits q → AllOf (Arrived W P a) q → arrivals_at K a W w (length q) at ≡ true
  unfolding arrivals_at
  inbox-complete [] at r e f h = refl
  inbox-complete (m ∷ q) at r e f h =
      let d = messages-first w at m q r f.0 e in
      both₂ (arrived-complete at m _ d.1 f.0 d.0 h.0) (inbox-complete q (at + message_size) r d.2 f.1 h.1)

  -- ---- the messages that wait
  -- at one of M entities, from the number lo on, whose slot says that it is an open future
  abbrev pub WaitsFrom : ℕ → ℕ → Message → Type 0
  WaitsFrom M lo (message v m vs) =
      (v ≡ ref a made (aim_of v)) × (lo ≤ aim_of v) × (aim_of v < M) × (get_or w (made_at + slot_size * aim_of v) 0 % digit_limit ≡ 3) × Sendable W P m vs

  abbrev pub Ordered : ℕ → ℕ → List Message → Type 0
  Ordered M lo [] = Unit {0}
  Ordered M lo (m ∷ q) = WaitsFrom M lo m × Ordered M (aim m) q

  waits-sound : (M lo at : ℕ) → at + message_size ≤ length w → waits_at K a W w M lo at ≡ true → (m : Message) × MessageAt w at m (at + message_size) × WaitsFrom M lo m × (aim m ≡ get_or w (at + 1) 0 % number_limit)
  unfolding waits_at aim aim_of
  waits-sound M lo at i h =
      let x = get_or w (at + 1) 0 in
      let n = x % number_limit in
      let r = and₅ (eqb (x / number_limit) (768 + 2 * a)) (leb lo n) (ltb n M) (eqb (get_or w (made_at + slot_size * n) 0 % digit_limit) 3) (sent_at K a W w at) h in
      let v = future-word a x l (eqb-true (x / number_limit) (768 + 2 * a) r.0) in
      let s = sent-sound K a W w at (ref a made n) i v r.4 in (
        message (ref a made n) s.0 s.1,
        s.2.0,
        (refl, leb-true lo n r.1, ltb-true n M r.2, eqb-true (get_or w (made_at + slot_size * n) 0 % digit_limit) 3 r.3, (s.2.1, all-is (allowed K a) P (λ y k. k) s.1 s.2.2)),
        refl,
      )

  waits-complete : (M lo at : ℕ) (m : Message) (r : List ℕ) → M ≤ number_limit → at + message_size ≤ length w → MessageFits m → drop at w ≡ encode_message m ++ r → WaitsFrom M lo m
      → (waits_at K a W w M lo at ≡ true) × (get_or w (at + 1) 0 % number_limit ≡ aim m)
  unfolding waits_at aim
  waits-complete M lo at (message v m vs) r b i f e h =
      let x = get_or w (at + 1) 0 in
      let k = aim_of v in
      let s = sent-complete K a W w at v m vs r i f e h.4.0 (is_all (allowed K a) P (λ y k. k) vs h.4.1) in
      let z = value-sound x v s.0 in
      let d : encode_value (ref a made k) ≡ x = ap encode_value (sym h.0) ∙ z.1 in
      let g = word-future a k (omega (arith, h.2)) in
      let o : x / number_limit ≡ 768 + 2 * a = ap (λ y. y / number_limit) (sym d) ∙ g.0 in
      let n : x % number_limit ≡ k = ap (λ y. y % number_limit) (sym d) ∙ g.1 in (
        both₂ (both₄ (eq-eqb (x / number_limit) (768 + 2 * a) o) (rw n (le-leb lo k h.1)) (rw n (lt-ltb k M h.2)) (rw n (eq-eqb (get_or w (made_at + slot_size * k) 0 % digit_limit) 3 h.3))) s.1,
        n,
      )

  abbrev pub WaitingIs : ℕ → ℕ → ℕ → ℕ → List Message → Type 0
  WaitingIs M c lo at q = (length q ≡ c) × Spans w at (at + message_size * c) (flat encode_message q) × Each MessageFits q × Ordered M lo q

  pub waiting-sound : (M c lo at : ℕ) → at + message_size * c ≤ length w → waiters_at K a W w M c lo at ≡ true → (q : List Message) × WaitingIs M c lo at q
  unfolding waiters_at flat
  waiting-sound M zero lo at i h = ([], (refl, span-end w at at (at + message_size * 0) [] (span_none w at) (omega arith), tt, tt))
  waiting-sound M (suc c) lo at i h =
      let n = get_or w (at + 1) 0 % number_limit in
      let r = and₂ (waits_at K a W w M lo at) (waiters_at K a W w M c n (at + message_size)) h in
      let m = waits-sound M lo at (omega arith) r.0 in
      let q = waiting-sound M c n (at + message_size) (omega arith) r.1 in
      (m.0 ∷ q.0, (ap suc q.1.0, messages-more w at c m.0 q.0 m.1 q.1.1, (m.1.0, q.1.2), (m.2, rw m.3 q.1.3)))

  pub waiting-complete : (M : ℕ) (q : List Message) (lo at : ℕ) (r : List ℕ) → M ≤ number_limit → drop at w ≡ flat encode_message q ++ r → Each MessageFits q → Ordered M lo q
      → waiters_at K a W w M (length q) lo at ≡ true
  unfolding waiters_at
  waiting-complete M [] lo at r b e f h = refl
  waiting-complete M (m ∷ q) lo at r b e f h =
      let d = messages-first w at m q r f.0 e in
      let g = waits-complete M lo at m _ b d.1 f.0 d.0 h.0 in
      both₂ g.0 (rw g.1 (waiting-complete M q (aim m) (at + message_size) r b d.2 f.1 h.1))
