-- Demand 3, entire: `two-lists`. On the words of a state, a list of calls is the list of all its entries: it leaves the words of what
-- those entries leave, and moves what they move; on other words it does nothing. So the claim is that of two lists of entries
-- (`Entries`), and what `list` answers depends on the published words alone. Assumes nothing.
use Rattle.std.specs.Prelude.{ℕ, ◌≤◌, ◌<◌, min, ◌≡◌, List, [], ◌∷◌, ◌++◌, length, take, drop, leb}
use Rattle.std.proofs.Math.Path.{refl, sym, ap}
use Rattle.std.proofs.Common.{◌∙◌, subst₂, arith, length-append, length-take, take_at, drop_at}
use Rattle.std.proofs.Math.Decide.{dec_le}
use Rattle.atlite.specs.Base.{Result, done, refused, ◌>>=◌, ◌>>◌, or_refuse, require}
use Rattle.atlite.specs.State.{State}
use Rattle.atlite.specs.Move as M
use Rattle.atlite.specs.Move.{AfterMove}
use Rattle.atlite.specs.Run as R
use Rattle.atlite.specs.Run.{begun, after_entry, run_from}
use Rattle.atlite.specs.Listing.{listing}
use Rattle.atlite.specs.Valid.{IsState}
use Rattle.layout.specs.Numbers.{state_words}
use Rattle.decoding.specs.Decode.{state_of}
use Rattle.invariant.specs.Moves.{run-keeps}
use Rattle.layout.specs.Pack.{flat}
use Rattle.layout.specs.Layout.{encode}
use Rattle.promises.specs.Meaning.{answered, room, state_in, lent, move_call, list_call}
use Rattle.layout_laws.specs.StateLaws.{state-length}
use Rattle.layout_laws.specs.Outcomes.{room-enough}
use Rattle.layout_laws.specs.MeaningLaws.{lent-state, state-lent, lent-short, move-unlent, run-unlent, move-leaves, move-stays, run-leaves}
use Rattle.promises.specs.Claim.{Call, move, run, entries, leaves, left_by, trace, traced_from, moved_by, Agree, written, SameEnd, TwoLists}
use Rattle.schedule.specs.Entries.{same_entries, run-append, trace-append}

-- ---- on the words of a state
run-one : (σ : State) (a : ℕ) (m : Result AfterMove) → M.move σ a ≡ m → (R.run σ (a ∷ [])).state ≡ (after_entry (begun σ) m).state
unfolding R.run run_from
run-one σ a m e = rw e

call-leaves : (c : Call) (σ : State) (r : List ℕ) → IsState σ → leaves (encode σ ++ r) c ≡ encode (R.run σ (entries c)).state ++ r
unfolding leaves entries after_entry
call-leaves (move a) σ r h = go (M.move σ a) refl
  where
    go : (m : Result AfterMove) → M.move σ a ≡ m → (move_call (encode σ ++ r) a).buffer ≡ encode (R.run σ (a ∷ [])).state ++ r
    go (refused n) e = ap (λ R. R.buffer) (move-stays σ r a n h e) ∙ ap (λ τ. encode τ ++ r) (sym (run-one σ a (refused n) e))
    go (done N) e = ap (λ R. R.buffer) (move-leaves σ r a N h e) ∙ ap (λ τ. encode τ ++ r) (sym (run-one σ a (done N) e))
call-leaves (run es) σ r h = ap (λ R. R.buffer) (run-leaves σ r es h)

-- all entries of a list of calls
abbrev all : List Call → List ℕ
all cs = flat entries cs

calls-leave : (cs : List Call) (σ : State) (r : List ℕ) → IsState σ → left_by (encode σ ++ r) cs ≡ encode (R.run σ (all cs)).state ++ r
unfolding left_by flat R.run run_from
calls-leave [] σ r h = refl
calls-leave (c ∷ cs) σ r h =
    ap (λ w. left_by w cs) (call-leaves c σ r h)
    ∙ calls-leave cs (R.run σ (entries c)).state r (run-keeps σ (entries c) h)
    ∙ ap (λ τ. encode τ ++ r) (sym (run-append (entries c) (all cs) σ))

calls-move : (cs : List Call) (σ : State) (r : List ℕ) → IsState σ → moved_by (encode σ ++ r) cs ≡ trace σ (all cs)
unfolding moved_by traced_from flat trace
calls-move [] σ r h = refl
calls-move (c ∷ cs) σ r h =
    rw (lent-state σ r h, call-leaves c σ r h, calls-move cs (R.run σ (entries c)).state r (run-keeps σ (entries c) h))
    (sym (trace-append (entries c) (all cs) σ))

-- ---- on other words
unlent-leaves : (c : Call) (w : List ℕ) (n : ℕ) → lent w ≡ refused n → leaves w c ≡ w
unfolding leaves
unlent-leaves (move a) w n e = ap (λ R. R.buffer) (move-unlent w a n e)
unlent-leaves (run es) w n e = ap (λ R. R.buffer) (run-unlent w es n e)

unlent-left : (cs : List Call) (w : List ℕ) (n : ℕ) → lent w ≡ refused n → left_by w cs ≡ w
unfolding left_by
unlent-left [] w n e = refl
unlent-left (c ∷ cs) w n e = ap (λ u. left_by u cs) (unlent-leaves c w n e) ∙ unlent-left cs w n e

-- ---- the published words decide
lent_same : (w v : List ℕ) → take state_words w ≡ take state_words v → lent w ≡ lent v
unfolding lent state_in
lent_same w v e = go (dec_le state_words (length w))
  where
    lengths : min state_words (length w) ≡ min state_words (length v)
    lengths = sym (length-take state_words w) ∙ ap length e ∙ length-take state_words v

    go : Dec (state_words ≤ length w) → lent w ≡ lent v
    go (yes l) =
        let k : state_words ≤ length v = omega (arith, lengths) in
        rw (room-enough state_words w l, room-enough state_words v k) (ap (λ u. or_refuse 7 (state_of u)) e)
    go (no l) =
        let k : length v < state_words = omega (arith, lengths) in
        lent-short w (omega arith) ∙ sym (lent-short v k)

-- what a list call is asked to write, by what its words are
unfoldable asked : List ℕ → Result State → Result (ℕ × List ℕ)
asked text m = m >>= λ σ. (room (length (listing σ)) text >> done (length (listing σ), listing σ))

result-same : (s t : List ℕ) (x : Result (ℕ × List ℕ)) → (answered s x).result ≡ (answered t x).result
unfolding answered
result-same s t (refused n) = refl
result-same s t (done p) = refl

abbrev shown : Result (ℕ × List ℕ) → List ℕ
shown (refused n) = []
shown (done p) = p.1

-- it writes that, and answers its length
asked-writes : (text : List ℕ) (m : Result State) → written (answered text (asked text m)).result (answered text (asked text m)).buffer ≡ shown (asked text m)
unfolding asked answered written
asked-writes text (refused n) = refl
asked-writes text (done σ) = go (room (length (listing σ)) text)
  where
    reply : Result (Unit {0}) → Result (ℕ × List ℕ)
    reply r = r >> done (length (listing σ), listing σ)

    go : (r : Result (Unit {0})) → written (answered text (reply r)).result (answered text (reply r)).buffer ≡ shown (reply r)
    go (refused n) = refl
    go (done u) = take_at (listing σ) _ (length (listing σ)) refl

-- whatever words are lent as a state, and for texts of one length
module _ (s t : List ℕ) (l : length s ≡ length t) where
  fits : (σ : State) → room (length (listing σ)) s ≡ room (length (listing σ)) t
  unfolding room
  fits σ = ap (λ n. require 6 (leb (length (listing σ)) n)) l

  asked-same : (m : Result State) → asked s m ≡ asked t m
  unfolding asked
  asked-same (refused n) = refl
  asked-same (done σ) = rw (fits σ)

  list_same : (w v : List ℕ) → lent w ≡ lent v → (list_call w s).result ≡ (list_call v t).result
  unfolding list_call asked
  list_same w v e = ap (λ m. (answered s (asked s m)).result) e ∙ ap (λ x. (answered s x).result) (asked-same (lent v)) ∙ result-same s t (asked t (lent v))

  list-writes : (w v : List ℕ) → lent w ≡ lent v
      → written (list_call w s).result (list_call w s).buffer ≡ written (list_call v t).result (list_call v t).buffer
  unfolding list_call asked
  list-writes w v e = asked-writes s (lent w) ∙ ap (λ m. shown (asked s m)) e ∙ ap shown (asked-same (lent v)) ∙ sym (asked-writes t (lent v))

-- ---- the claim
-- the words of a state in place of another's
module _ (w : List ℕ) (σ τ : State) (h : IsState σ) (k : IsState τ) (is : w ≡ encode σ ++ drop state_words w) where
  front : take state_words (encode τ ++ drop state_words w) ≡ encode τ
  front = take_at (encode τ) (drop state_words w) state_words (state-length τ k)

  back : drop state_words (encode τ ++ drop state_words w) ≡ drop state_words w
  back = drop_at (encode τ) (drop state_words w) state_words (state-length τ k)

  long : length (encode τ ++ drop state_words w) ≡ length w
  long =
      let a = length-append (encode τ) (drop state_words w) in
      let b = length-append (encode σ) (drop state_words w) in
      let c : length w ≡ length (encode σ ++ drop state_words w) = ap length is in
      omega (arith, state-length σ h, state-length τ k)

-- from words that are the state σ, both lists end in the state τ
ended : (w v : List ℕ) (σ τ : State) → IsState σ → IsState τ → w ≡ encode σ ++ drop state_words w → v ≡ encode σ ++ drop state_words v
    → SameEnd w v (encode τ ++ drop state_words w) (encode τ ++ drop state_words v)
ended w v σ τ h k a b =
    let p = front w σ τ h k a ∙ sym (front v σ τ h k b) in
    let e = lent_same (encode τ ++ drop state_words w) (encode τ ++ drop state_words v) p in
    record {
      published = p;
      past = (back w σ τ h k a, back v σ τ h k b);
      lengths = (long w σ τ h k a, long v σ τ h k b);
      answers = λ s t l. list_same s t l (encode τ ++ drop state_words w) (encode τ ++ drop state_words v) e;
      writes = λ s t l. list-writes s t l (encode τ ++ drop state_words w) (encode τ ++ drop state_words v) e;
    }

unlent : (w v : List ℕ) → take state_words w ≡ take state_words v → SameEnd w v w v
unlent w v e = record {
  published = e;
  past = (refl, refl);
  lengths = (refl, refl);
  answers = λ s t l. list_same s t l w v (lent_same w v e);
  writes = λ s t l. list-writes s t l w v (lent_same w v e);
}

pub two-lists : TwoLists
two-lists w v e cs ds h = go (lent w) refl
  where
    go : (m : Result State) → lent w ≡ m → SameEnd w v (left_by w cs) (left_by v ds)
    go (refused n) f =
        let g : lent v ≡ refused n = sym (lent_same w v e) ∙ f in
        rw (unlent-left cs w n f, unlent-left ds v n g) (unlent w v e)
    go (done σ) f =
        let p = state-lent w σ f in
        let q = state-lent v σ (sym (lent_same w v e) ∙ f) in
        let a : moved_by w cs ≡ trace σ (all cs) = ap (λ u. moved_by u cs) p.1 ∙ calls-move cs σ (drop state_words w) p.0 in
        let b : moved_by v ds ≡ trace σ (all ds) = ap (λ u. moved_by u ds) q.1 ∙ calls-move ds σ (drop state_words v) p.0 in
        let τ = (R.run σ (all cs)).state in
        let same : (R.run σ (all ds)).state ≡ τ = sym (same_entries σ (all cs) (all ds) (subst₂ Agree a b h)) in
        let x : left_by w cs ≡ encode τ ++ drop state_words w = ap (λ u. left_by u cs) p.1 ∙ calls-leave cs σ (drop state_words w) p.0 in
        let y : left_by v ds ≡ encode τ ++ drop state_words v =
        ap (λ u. left_by u ds) q.1 ∙ calls-leave ds σ (drop state_words v) p.0 ∙ ap (λ z. encode z ++ drop state_words v) same in
        rw (x, y) (ended w v σ τ p.0 (run-keeps σ (all cs) p.0) p.1 q.1)
