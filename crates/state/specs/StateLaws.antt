-- Words are a state exactly if the conditions hold, one part after another. From the parts to the state the actors are those that the
-- parts are words of; from the state to the parts they are the state's own. What a part may hold is told by the kinds of all entities
-- in the one and by the state in the other, and both say the same. Assumes nothing.
use Rattle.std.specs.Prelude.{ℕ, zero, suc, ◌+◌, ◌-◌, ◌*◌, ◌≤◌, ◌≡◌, refl, true, List, [], ◌∷◌, ◌++◌, leb, drop}
use Rattle.std.proofs.Common.{sym, ◌∙◌, append_assoc, le-leb, take-append-drop, drop-cons, drop-drop, drop_at}
use Rattle.std.proofs.Math.Path.{ap, ap₂, subst as transp}
use Rattle.std.proofs.Math.Option.{some}
use native.Mathlib.Omega.{arith}
use Rattle.std.proofs.Math.ListN.{length, take, get_or, get_elem?}
use Rattle.std.proofs.Math.Seq.{take_at}
use Rattle.atlite.specs.Base.{all}
use Rattle.atlite.specs.Term.{Value}
use Rattle.atlite.specs.State.{Actor, State, is_future}
use Rattle.atlite.specs.Limits.{full, within_actor, within_limits}
use Rattle.atlite.specs.Valid.{IsActor, IsState, MayHold}
use Rattle.decoding.specs.ValidTest.{holdable}
use Rattle.atlite_laws.specs.Facts.{none-some, and₂, both₂}
use Rattle.invariant.specs.Monotonicity.{actor-up}
use Rattle.invariant.specs.Tests.{hold-to, hold-from}
use Rattle.layout.specs.Numbers.{slot_count, state_slots, part_size, head_size, parts_size, tail_size, state_words, word_size}
use Rattle.layout.specs.Pack.{zeros, pad, flat}
use Rattle.layout_laws.specs.PackLaws.{Each, pad-front, length-zeros, length-flat}
use Rattle.layout.specs.Layout.{encode_actor, encode_word, encode}
use Rattle.layout_laws.specs.Parts.{ActorFits, actor-length}
use Rattle.layout_laws.specs.StateReads.{StateFits, top_words, actors-parts, words-three, count0, count1, actors-at, words_are}
use Rattle.layout_laws.specs.Writes.{zeros-split}
use Rattle.layout_laws.specs.StateFits.{state-fits}
use Rattle.dictionary.specs.Entries.{entries_at, entries_hold}
use Rattle.dictionary.specs.EntryLaws.{entries-encoded, length-entries}
use Rattle.actor.specs.PartContract.{IsPart}
use Rattle.term_words.specs.Kinds.{allowed, future_by}
use Rattle.entity_kinds.specs.Table.{rows, FewAll}
use Rattle.entity_kinds.specs.KindLaws.{row_of, parts-rows, parts-few, allowed-holdable, future-is}
use Rattle.state.specs.Conditions.{Words, HeadHolds, PartsHold, kinds_for, Holds, AreState}

-- ---- what an actor may hold, by the kinds and by the state
module _ (σ : State) (f : Each ActorFits σ.actors) (few : length σ.actors ≤ 4) (k W : ℕ) (K : List ℕ) (is : K ≡ flat row_of σ.actors ++ zeros k) where
  kinds-hold : (a : ℕ) (v : Value) → allowed K a v ≡ holdable σ a v
  kinds-hold a v = rw is (allowed-holdable σ f few k a v)

  kinds-future : (v : Value) → future_by K v ≡ is_future σ v
  kinds-future v = rw is (future-is σ f few k v)

  by_state : (a : ℕ) (A : Actor) → IsActor W (λ v. allowed K a v ≡ true) (future_by K) a A → IsActor W (MayHold σ a) (is_future σ) a A
  by_state a A h =
      actor-up W (λ v. allowed K a v ≡ true) (MayHold σ a) (future_by K) (is_future σ) (λ v e. hold-to σ a v (sym (kinds-hold a v) ∙ e))
      (λ v e. sym (kinds-future v)) (λ v e. sym (kinds-future v) ∙ e) a A h

  by-kinds : (a : ℕ) (A : Actor) → IsActor W (MayHold σ a) (is_future σ) a A → IsActor W (λ v. allowed K a v ≡ true) (future_by K) a A
  by-kinds a A h =
      actor-up W (MayHold σ a) (λ v. allowed K a v ≡ true) (is_future σ) (future_by K) (λ v e. kinds-hold a v ∙ hold-from σ a v e)
      (λ v e. kinds-future v) (λ v e. kinds-future v ∙ e) a A h

-- ---- parts and actors
-- the actors of n parts, and the words behind those
pub record Actors (K : List ℕ) (W a n : ℕ) (p : List ℕ) : Type 0 where
  pub list : List Actor
  pub count : length list ≡ n
  pub words : flat encode_actor list ++ drop (part_size * n) p ≡ p
  pub fit : Each ActorFits list
  pub within : all (within_actor full) list ≡ true
  pub hold : (i : ℕ) (A : Actor) → get_elem? list i ≡ some A → IsActor W (λ v. allowed K (a + i) v ≡ true) (future_by K) (a + i) A

parts-actors : (K : List ℕ) (W a n : ℕ) (p : List ℕ) → PartsHold K W a n p → Actors K W a n p
unfolding PartsHold IsPart flat all
parts-actors K W a zero p h = record {
  list = [];
  count = refl;
  words = refl;
  fit = tt;
  within = refl;
  hold = λ i A e. absurd (none-some e);
}
parts-actors K W a (suc n) p h =
    let A = h.0.0 in
    let r = parts-actors K W (suc a) n (drop part_size p) h.1 in
    let k : part_size * suc n ≡ part_size + part_size * n = omega arith in
    record {
      list = A ∷ r.list;
      count = ap suc r.count;
      words =
          append_assoc (encode_actor A) (flat encode_actor r.list) (drop (part_size * suc n) p)
          ∙ ap₂ (λ x y. x ++ (flat encode_actor r.list ++ y)) h.0.1 (ap (λ i. drop i p) k ∙ sym (drop-drop (part_size * n) part_size p))
          ∙ ap (λ l. take part_size p ++ l) r.words
          ∙ take-append-drop part_size p;
      fit = (h.0.4, r.fit);
      within = both₂ h.0.2 r.within;
      hold = each r.list A r.hold h.0.3;
    }
  where
    each : (l : List Actor) (A : Actor) → ((i : ℕ) (B : Actor) → get_elem? l i ≡ some B → IsActor W (λ v. allowed K (suc a + i) v ≡ true) (future_by K) (suc a + i) B)
        → IsActor W (λ v. allowed K a v ≡ true) (future_by K) a A
        → (i : ℕ) (B : Actor) → get_elem? (A ∷ l) i ≡ some B → IsActor W (λ v. allowed K (a + i) v ≡ true) (future_by K) (a + i) B
    each l A f g zero B e =
        let q : A ≡ B = cc in
        let z : a + 0 ≡ a = omega arith in
        rw (z, ← q) g
    each l A f g (suc i) B e = let z : a + suc i ≡ suc a + i = omega arith in rw z (f i B e)

actors-parts-hold : (K : List ℕ) (W a : ℕ) (As : List Actor) (r : List ℕ) → Each ActorFits As → all (within_actor full) As ≡ true
    → ((i : ℕ) (A : Actor) → get_elem? As i ≡ some A → IsActor W (λ v. allowed K (a + i) v ≡ true) (future_by K) (a + i) A)
    → PartsHold K W a (length As) (flat encode_actor As ++ r)
unfolding PartsHold IsPart flat all
actors-parts-hold K W a [] r f w h = tt
actors-parts-hold K W a (A ∷ As) r f w h =
    let e : (encode_actor A ++ flat encode_actor As) ++ r ≡ encode_actor A ++ (flat encode_actor As ++ r) = append_assoc (encode_actor A) (flat encode_actor As) r in
    let q = and₂ (within_actor full A) (all (within_actor full) As) w in
    let l = actor-length A f.0 in
    let z : a + 0 ≡ a = omega arith in
    let g : IsActor W (λ v. allowed K a v ≡ true) (future_by K) a A = rw z at (h 0 A refl) in
    let t : take part_size ((encode_actor A ++ flat encode_actor As) ++ r) ≡ encode_actor A = rw e (take_at (encode_actor A) (flat encode_actor As ++ r) part_size l) in
    let d : drop part_size ((encode_actor A ++ flat encode_actor As) ++ r) ≡ flat encode_actor As ++ r = rw e (drop_at (encode_actor A) (flat encode_actor As ++ r) part_size l) in (
      (A, sym t, q.0, g, f.0),
      transp (λ p. PartsHold K W (suc a) (length As) p) (sym d)
          (actors-parts-hold K W (suc a) As r f.1 q.1 (λ i B k. let y : a + suc i ≡ suc a + i = omega arith in rw y at (h (suc i) B k))),
    )

-- ---- from the conditions to the state
split_at : (w : List ℕ) (a e : ℕ) → a ≤ e → drop a w ≡ take (e - a) (drop a w) ++ drop e w
split_at w a e h =
    let k : a + (e - a) ≡ e = omega arith in
    sym (take-append-drop (e - a) (drop a w)) ∙ ap (λ l. take (e - a) (drop a w) ++ l) (drop-drop (e - a) a w ∙ ap (λ i. drop i w) k)

module _ (w : List ℕ) (u : Words w) (h : HeadHolds w) where
  abbrev dictionary : List (List ℕ)
  dictionary = entries_at w 2 (get_or w 1 0)

  abbrev front : List ℕ
  front = get_or w 0 0 ∷ get_or w 1 0 ∷ flat encode_word dictionary

  front_length : length front ≡ 2 + word_size * get_or w 1 0
  front_length =
      omega (arith, length-flat encode_word 3 dictionary (words-three dictionary), length-entries w (get_or w 1 0) 2)

  two-first : w ≡ get_or w 0 0 ∷ get_or w 1 0 ∷ drop 2 w
  two-first =
      let l = u.count in
      drop-cons w 0 0 (omega arith) ∙ ap {B = List ℕ} (λ r. get_or w 0 0 ∷ r) (drop-cons w 1 0 (omega arith))

  head-is : w ≡ pad head_size front ++ drop head_size w
  head-is =
      let l = u.count in
      let m = h.words in
      let a : drop 2 w ≡ flat encode_word dictionary ++ (zeros (head_size - length front) ++ drop head_size w) =
      sym (entries-encoded w u.small (get_or w 1 0) 2 (omega arith))
      ∙ ap (λ r. flat encode_word dictionary ++ r)
      (split_at w (2 + word_size * get_or w 1 0) head_size (omega arith)
      ∙ ap (λ r. r ++ drop head_size w) (h.spare ∙ ap (λ i. zeros (head_size - i)) (sym front_length))) in
      two-first ∙ ap {B = List ℕ} (λ r. get_or w 0 0 ∷ get_or w 1 0 ∷ r) a ∙ sym (pad-front head_size front (drop head_size w))

  module _ (K : List ℕ) (A : Actors K (get_or w 1 0) 0 (get_or w 0 0) (drop head_size w)) where
    abbrev found : State
    found = record { words = dictionary; actors = A.list }

    rest-is : drop (part_size * get_or w 0 0) (drop head_size w) ≡ zeros (state_words - (head_size + part_size * get_or w 0 0))
    rest-is = drop-drop (part_size * get_or w 0 0) head_size w ∙ h.rest

    flat-length : length (flat encode_actor A.list) ≡ part_size * get_or w 0 0
    flat-length = omega (arith, length-flat encode_actor part_size A.list (actors-parts A.list A.fit), A.count)

    tail-is : pad parts_size (flat encode_actor A.list) ++ zeros tail_size ≡ drop head_size w
    tail-is =
        let e = flat-length in
        let m = h.actors in
        let k : state_words - (head_size + part_size * get_or w 0 0) ≡ (parts_size - length (flat encode_actor A.list)) + tail_size = omega arith in
        pad-front parts_size (flat encode_actor A.list) (zeros tail_size)
        ∙ ap (λ r. flat encode_actor A.list ++ r) (sym (zeros-split (parts_size - length (flat encode_actor A.list)) tail_size) ∙ ap zeros (sym k) ∙ sym rest-is)
        ∙ A.words

    encoded : encode found ≡ w
    unfolding encode
    encoded = rw (A.count, length-entries w (get_or w 1 0) 2, tail-is) (sym head-is)

    valid : K ≡ kinds_for (get_or w 0 0) (drop head_size w) → IsState found
    unfolding entries_hold within_limits kinds_for
    valid is =
        let n = A.count in
        let m = length-entries w (get_or w 1 0) 2 in
        let few : length A.list ≤ 4 = omega (arith, h.actors) in
        let r : rows (get_or w 0 0) (drop head_size w) ≡ flat row_of A.list =
        ap₂ rows (sym n) (sym A.words) ∙ parts-rows A.list (drop (part_size * get_or w 0 0) (drop head_size w)) A.fit in
        let q : K ≡ flat row_of A.list ++ zeros (state_slots - slot_count * get_or w 0 0) = is ∙ ap (λ l. l ++ zeros (state_slots - slot_count * get_or w 0 0)) r in
        record {
          few = omega (arith, h.words);
          words = h.dictionary;
          started = omega (arith, h.started);
          limits = both₂ (le-leb (length A.list) 4 few) A.within;
          actors = λ a B e.
              let z : 0 + a ≡ a = omega arith in
              let g : IsActor (get_or w 1 0) (λ v. allowed K a v ≡ true) (future_by K) a B = rw z at (A.hold a B e) in
              rw m (by_state found A.fit few (state_slots - slot_count * get_or w 0 0) (get_or w 1 0) K q a B g);
        }

pub holds-state : (w : List ℕ) → Words w → Holds w → AreState w
holds-state w u h =
    let K = kinds_for (get_or w 0 0) (drop head_size w) in
    let A = parts-actors K (get_or w 1 0) 0 (get_or w 0 0) (drop head_size w) h.parts in
    record { state = found w u h.head K A; valid = valid w u h.head K A refl; encoded = encoded w u h.head K A }

-- ---- from the state to the conditions
module _ (σ : State) (s : IsState σ) (w : List ℕ) (is : w ≡ encode σ) where
  abbrev fits : StateFits σ
  fits = state-fits σ s

  n0 : get_or w 0 0 ≡ length σ.actors
  n0 = count0 σ fits w is

  n1 : get_or w 1 0 ≡ length σ.words
  n1 = count1 σ fits w is

  top-length : length (top_words σ fits) ≡ 2 + word_size * get_or w 1 0
  top-length = omega (arith, length-flat encode_word 3 σ.words (words-three σ.words), n1)

  flat-words : length (flat encode_actor σ.actors) ≡ part_size * get_or w 0 0
  flat-words = omega (arith, length-flat encode_actor part_size σ.actors (actors-parts σ.actors fits.actors_fit), n0)

  abbrev behind : List ℕ
  behind = zeros (parts_size - length (flat encode_actor σ.actors)) ++ zeros tail_size

  spare-is : take (head_size - (2 + word_size * get_or w 1 0)) (drop (2 + word_size * get_or w 1 0) w) ≡ zeros (head_size - (2 + word_size * get_or w 1 0))
  unfolding encode
  spare-is =
      let r = pad parts_size (flat encode_actor σ.actors) ++ zeros tail_size in
      let z = zeros (head_size - length (top_words σ fits)) in
      let k : length z ≡ head_size - (2 + word_size * get_or w 1 0) = length-zeros _ ∙ ap (λ i. head_size - i) top-length in
      ap (λ l. take (head_size - (2 + word_size * get_or w 1 0)) (drop (2 + word_size * get_or w 1 0) l)) (is ∙ pad-front head_size (top_words σ fits) r)
      ∙ ap (take (head_size - (2 + word_size * get_or w 1 0))) (drop_at (top_words σ fits) (z ++ r) (2 + word_size * get_or w 1 0) top-length)
      ∙ take_at z r (head_size - (2 + word_size * get_or w 1 0)) k
      ∙ ap (λ i. zeros (head_size - i)) top-length

  behind-is : drop (head_size + part_size * get_or w 0 0) w ≡ zeros (state_words - (head_size + part_size * get_or w 0 0))
  behind-is =
      let e = flat-words in
      let m = fits.actor_count in
      let c = n0 in
      let k : (parts_size - length (flat encode_actor σ.actors)) + tail_size ≡ state_words - (head_size + part_size * get_or w 0 0) = omega arith in
      sym (drop-drop (part_size * get_or w 0 0) head_size w)
      ∙ ap (drop (part_size * get_or w 0 0)) (actors-at σ fits w is)
      ∙ drop_at (flat encode_actor σ.actors) behind (part_size * get_or w 0 0) flat-words
      ∙ sym (zeros-split (parts_size - length (flat encode_actor σ.actors)) tail_size)
      ∙ ap zeros k

  head-holds : HeadHolds w
  unfolding entries_hold entries_at
  head-holds = record {
    started = omega (arith, n0, s.started);
    actors = omega (arith, n0, fits.actor_count);
    words = omega (arith, n1, fits.word_count);
    dictionary = rw (words_are σ fits w is) s.words;
    spare = spare-is;
    rest = behind-is;
  }

  abbrev table : List ℕ
  table = kinds_for (get_or w 0 0) (drop head_size w)

  table_is : table ≡ flat row_of σ.actors ++ zeros (state_slots - slot_count * get_or w 0 0)
  unfolding kinds_for
  table_is =
      ap (λ l. l ++ zeros (state_slots - slot_count * get_or w 0 0))
      (ap₂ rows n0 (actors-at σ fits w is) ∙ parts-rows σ.actors behind fits.actors_fit)

  parts-hold : PartsHold table (get_or w 1 0) 0 (get_or w 0 0) (drop head_size w)
  unfolding within_limits
  parts-hold =
      let l = and₂ (leb (length σ.actors) 4) (all (within_actor full) σ.actors) s.limits in
      let h = actors-parts-hold table (length σ.words) 0 σ.actors behind fits.actors_fit l.1 (λ i A e.
      let z : 0 + i ≡ i = omega arith in
      rw z (by-kinds σ fits.actors_fit fits.actor_count (state_slots - slot_count * get_or w 0 0) (length σ.words) table table_is i A (s.actors i A e))) in
      transp (λ p. PartsHold table (get_or w 1 0) 0 (get_or w 0 0) p) (sym (actors-at σ fits w is))
      (transp (λ n. PartsHold table (get_or w 1 0) 0 n (flat encode_actor σ.actors ++ behind)) (sym n0)
      (transp (λ n. PartsHold table n 0 (length σ.actors) (flat encode_actor σ.actors ++ behind)) (sym n1) h))

  few-hold : FewAll (get_or w 0 0) (drop head_size w)
  few-hold =
      transp (λ p. FewAll (get_or w 0 0) p) (sym (actors-at σ fits w is))
      (transp (λ n. FewAll n (flat encode_actor σ.actors ++ behind)) (sym n0) (parts-few σ.actors behind fits.actors_fit))

pub state-holds : (w : List ℕ) → AreState w → Holds w
state-holds w a =
    let e = sym a.encoded in
    record {
      head = head-holds a.state a.valid w e;
      few = few-hold a.state a.valid w e;
      parts = parts-hold a.state a.valid w e;
    }
