-- The test of a message is true just where a message stands that may be sent and holds what is allowed: its words are got by
-- `parse_message`, whose own tests are those of the code, so each way goes through what was got. Assumes nothing.
use Rattle.std.specs.Prelude.{ℕ, ◌+◌, ◌-◌, ◌≤◌, ◌/◌, ◌%◌, ◌≡◌, refl, Bool, List, ◌++◌, eqb, ltb, leb, length, drop}
use Rattle.std.proofs.Math.Bool.{true}
use Rattle.std.proofs.Math.Option.{Option, none, some}
use Rattle.std.proofs.Common.{arith}
use borrow.Author.Tests.{ltb-true, le-leb}
use Rattle.std.proofs.Math.ListN.{get_or}
use Rattle.atlite.specs.Base.{all}
use Rattle.atlite.specs.Term.{Value, Name}
use Rattle.atlite.specs.State.{Message, message}
use Rattle.atlite.specs.Valid.{sendable}
use Rattle.atlite_laws.specs.Facts.{and₅, both₂, both₄}
use Rattle.layout.specs.Numbers.{payload, name_limit, tag_limit, message_size}
use Rattle.layout.specs.Layout.{encode_message}
use Rattle.layout_laws.specs.Slots.{MessageFits}
use Rattle.layout_laws.specs.Parse.{got, value_at, name_of, values_at, zeros_at, parse_message}
use Rattle.layout_laws.specs.ParseWords.{Holding, holding}
use Rattle.layout_laws.specs.ParseSound.{Ended}
use Rattle.layout_laws.proofs.ParseSound.{ended, ended-behind}
use Rattle.layout_laws.specs.ParseMessages.{MessageAt, ValuesAt}
use Rattle.layout_laws.proofs.ParseMessages.{ended-sure, values-at, message-sound, message-complete}
use Rattle.term_words.specs.Kinds.{allowed}
use Rattle.term_words.specs.Words.{within, send_in}
use Rattle.term_words.specs.WordLaws.{within-true}
use Rattle.actor.specs.Tests.{low, arguments, sent_at}

-- ---- what was read
pub some-within : {A : Type 0} (p : A → Bool) (o : Option A) (a : A) → o ≡ some a → p a ≡ true → within p o ≡ true
unfolding within
some-within p o a e h = rw e h

-- ---- what was got, taken apart
is_some : {A : Type 0} (o : Option A) → Holding (λ a. o ≡ some a) o
is_some none = tt
is_some (some a) = refl

-- the tests of a message that was got
pub record Facts (w : List ℕ) (at : ℕ) (v : Value) (m : Name) (vs : List Value) : Type 0 where
  pub kind : eqb (get_or w at 0 / payload) 14 ≡ true
  pub few : ltb (arguments (get_or w at 0)) 5 ≡ true
  pub rest : zeros_at w (4 - arguments (get_or w at 0)) (at + 2 + arguments (get_or w at 0)) ≡ true
  pub name : name_of (low (get_or w at 0) / name_limit % tag_limit) (low (get_or w at 0) % name_limit) ≡ some m
  pub to : value_at (get_or w (at + 1) 0) ≡ some v
  pub values : values_at w (arguments (get_or w at 0)) (at + 2) ≡ some vs

abbrev FactsOf : List ℕ → ℕ → Message → ℕ → Type 0
FactsOf w at (message v m vs) i = Facts w at v m vs

all-facts : (w : List ℕ) (at : ℕ) → Ended (FactsOf w at) (parse_message w at)
unfolding parse_message
all-facts w at =
    let F = FactsOf w at in
    let x = get_or w at 0 in
    let n = arguments x in
    let name = name_of (low x / name_limit % tag_limit) (low x % name_limit) in
    let to = value_at (get_or w (at + 1) 0) in
    let values = values_at w n (at + 2) in
    ended-sure F (leb (at + message_size) (length w)) _ (λ l.
    ended-sure F (eqb (x / payload) 14) _ (λ k.
    ended-sure F (ltb n 5) _ (λ c.
    ended-sure F (zeros_at w (4 - n) (at + 2 + n)) _ (λ z.
    ended-behind (λ m. name ≡ some m) F name _ (is_some name) (λ m i.
    ended-behind (λ v. to ≡ some v) F to _ (is_some to) (λ v j.
    ended-behind (λ vs. values ≡ some vs) F values _ (is_some values) (λ vs u.
    record { kind = k; few = c; rest = z; name = i; to = j; values = u })))))))

message-facts : (w : List ℕ) (at : ℕ) (v : Value) (m : Name) (vs : List Value) (i : ℕ) → parse_message w at ≡ got (message v m vs) i → Facts w at v m vs
message-facts w at v m vs i h = ended (FactsOf w at) (parse_message w at) (message v m vs) i (all-facts w at) h

facts-message : (w : List ℕ) (at : ℕ) (v : Value) (m : Name) (vs : List Value) → at + message_size ≤ length w → Facts w at v m vs → parse_message w at ≡ got (message v m vs) (at + message_size)
unfolding parse_message
facts-message w at v m vs l f = rw (le-leb (at + message_size) (length w) l, f.kind, f.few, f.rest, f.name, f.to, f.values)

-- ---- the test
module _ (K : List ℕ) (a W : ℕ) (w : List ℕ) (at : ℕ) where
  -- what is sent there to v
  abbrev pub SentTo : Value → Name → List Value → Type 0
  SentTo v m vs = MessageAt w at (message v m vs) (at + message_size) × (sendable W m (length vs) ≡ true) × (all (allowed K a) vs ≡ true)

  pub sent-sound : (v : Value) → at + message_size ≤ length w → value_at (get_or w (at + 1) 0) ≡ some v → sent_at K a W w at ≡ true → (m : Name) × (vs : List Value) × SentTo v m vs
  unfolding sent_at send_in
  sent-sound v l t h =
      let x = get_or w at 0 in
      let n = arguments x in
      let r = and₅ (eqb (x / payload) 14) (ltb n 5) (send_in W (low x)) (within (all (allowed K a)) (values_at w n (at + 2))) (zeros_at w (4 - n) (at + 2 + n)) h in
      let s = within-true (λ m. sendable W m n) (name_of (low x / name_limit % tag_limit) (low x % name_limit)) r.2 in
      let q = within-true (all (allowed K a)) _ r.3 in
      let f : Facts w at v s.0 q.0 = record { kind = r.0; few = r.1; rest = r.4; name = s.1; to = t; values = q.1 } in
      let b = ltb-true n 5 r.1 in
      let c = holding (ValuesAt w n (at + 2)) (values_at w n (at + 2)) q.0 (values-at w n (at + 2) (omega arith)) q.1 in
      (s.0, q.0, (message-sound w at (message v s.0 q.0) (at + message_size) (facts-message w at v s.0 q.0 l f), rw c.1 s.2, q.2))

  pub sent-complete : (v : Value) (m : Name) (vs : List Value) (r : List ℕ) → at + message_size ≤ length w → MessageFits (message v m vs) → drop at w ≡ encode_message (message v m vs) ++ r
      → sendable W m (length vs) ≡ true → all (allowed K a) vs ≡ true → (value_at (get_or w (at + 1) 0) ≡ some v) × (sent_at K a W w at ≡ true)
  unfolding sent_at send_in
  sent-complete v m vs r l h e s q =
      let x = get_or w at 0 in
      let n = arguments x in
      let f = message-facts w at v m vs (at + message_size) (message-complete (message v m vs) w at r h e) in
      let b = ltb-true n 5 f.few in
      let c = holding (ValuesAt w n (at + 2)) (values_at w n (at + 2)) vs (values-at w n (at + 2) (omega arith)) f.values in
      let t : sendable W m n ≡ true = rw c.1 at s in
      (f.to, both₂ (both₄ f.kind f.few (some-within (λ m. sendable W m n) (name_of (low x / name_limit % tag_limit) (low x % name_limit)) m f.name t) (some-within (all (allowed K a)) _ vs f.values q)) f.rest)
