-- What demand 3 says of two lists of calls: document 01, "Two lists of calls", sentence by sentence. Assumes nothing.
--
-- A list of calls is lent a list of words, whatever stands in it. Its moved entries are read off the definitions of the calls and of a
-- move; what two lists have to agree in is read off those; and what they then end in is said of the words that are left and of the
-- call `list`. Crate `schedule` proves it: `two-lists` of these functions, and `same_end`, `same_answer` and `same_bytes` of calls that code made.
use Rattle.std.specs.Prelude.{ℕ, suc, List, [], ◌∷◌, ◌++◌, ◌≡◌, length, take, drop, eqb, if◌then◌else◌}
use Rattle.atlite.specs.Base.{Result, done, refused}
use Rattle.atlite.specs.State.{State}
use Rattle.atlite.specs.Move as Moves
use Rattle.atlite.specs.Move.{Answer, Inner, Taken, Sent, Created, AfterMove}
use Rattle.atlite.specs.Run as Runs
use Rattle.atlite.specs.Answers.{Returned}
use Rattle.atlite.specs.declared.Moved.{Moved}
use Rattle.atlite.specs.declared.Ran.{Ran}
use Rattle.layout.specs.Numbers.{state_words}
use Rattle.promises.specs.Meaning.{lent, move_call, run_call, list_call, MovesCall, RunsCall}

-- ---- calls
-- A move call names an actor, by any number; a run call has one byte an entry, any bytes.
pub data Call : Type 0 where
  move : ℕ → Call
  run : List ℕ → Call

unfoldable pub entries : Call → List ℕ
entries (move a) = a ∷ []
entries (run es) = es

-- what a call leaves of the words it is lent
unfoldable pub leaves : List ℕ → Call → List ℕ
leaves w (move a) = (move_call w a).buffer
leaves w (run es) = (run_call w es).buffer

-- the words in the end; the list may be empty
unfoldable pub left_by : List ℕ → List Call → List ℕ
left_by w [] = w
left_by w (c ∷ cs) = left_by (leaves w c) cs

-- ---- moved entries
-- an entry that moved: the actor whose move it was, and what it answered
pub data Event : Type 0 where
  event : ℕ → Answer → Event

-- A refused entry is none.
unfoldable pub events_of : ℕ → Result AfterMove → List Event
events_of a (refused n) = []
events_of a (done M) = event a M.answer ∷ []

-- entry after entry, each from the state that those before it leave
unfoldable pub trace : State → List ℕ → List Event
trace σ [] = []
trace σ (a ∷ es) = events_of a (Moves.move σ a) ++ trace (Runs.run σ (a ∷ [])).state es

-- A call that is refused with 6 or 7 has no entry that moves.
unfoldable pub traced_from : Result State → List ℕ → List Event
traced_from (refused n) es = []
traced_from (done σ) es = trace σ es

unfoldable pub moved_by : List ℕ → List Call → List Event
moved_by w [] = []
moved_by w (c ∷ cs) = traced_from (lent w) (entries c) ++ moved_by (leaves w c) cs

-- ---- what two lists agree in
-- the moves of the actor b
unfoldable pub moves_of : ℕ → List Event → ℕ
moves_of b [] = 0
moves_of b (event a r ∷ t) = if eqb a b then suc (moves_of b t) else moves_of b t

-- The senders of the messages that joined the inbox of b, in order: own sends too, and whether or not the message was taken since. A
-- move that turns a .register into a send answers Inner and sends nothing.
unfoldable pub senders : ℕ → List Event → List ℕ
senders b [] = []
senders b (event a Inner ∷ t) = senders b t
senders b (event a Taken ∷ t) = senders b t
senders b (event a (Sent c) ∷ t) = if eqb c b then a ∷ senders b t else senders b t
senders b (event a (Created c) ∷ t) = senders b t

-- the actors whose moves created one, in order
unfoldable pub creators : List Event → List ℕ
creators [] = []
creators (event a Inner ∷ t) = creators t
creators (event a Taken ∷ t) = creators t
creators (event a (Sent c) ∷ t) = creators t
creators (event a (Created c) ∷ t) = a ∷ creators t

pub record Agree (s t : List Event) : Type 0 where
  pub moves : (b : ℕ) → moves_of b s ≡ moves_of b t
  pub order : (b : ℕ) → senders b s ≡ senders b t
  pub makers : creators s ≡ creators t

-- ---- what they end in
-- the bytes that a list call wrote
unfoldable pub written : Result ℕ → List ℕ → List ℕ
written (refused n) text = []
written (done n) text = take n text

-- From w and v, which have the same published words, the lists left w' and v'.
pub record SameEnd (w v w' v' : List ℕ) : Type 0 where
  pub published : take state_words w' ≡ take state_words v'
  -- no word past the published ones has changed, and none is gone
  pub past : (drop state_words w' ≡ drop state_words w) × (drop state_words v' ≡ drop state_words v)
  pub lengths : (length w' ≡ length w) × (length v' ≡ length v)
  -- for text buffers of one length, whatever they held
  pub answers : (s t : List ℕ) → length s ≡ length t → (list_call w' s).result ≡ (list_call v' t).result
  pub writes : (s t : List ℕ) → length s ≡ length t
      → written (list_call w' s).result (list_call w' s).buffer ≡ written (list_call v' t).result (list_call v' t).buffer

-- The claim of demand 3: w and v are two buffers with the same published words, one for each list, so neither list sees the other's moves.
abbrev pub TwoLists : Type 0
TwoLists =
    (w v : List ℕ) → take state_words w ≡ take state_words v
    → (cs ds : List Call) → Agree (moved_by w cs) (moved_by v ds) → SameEnd w v (left_by w cs) (left_by v ds)

-- ---- calls that were made
-- Code, whatever it is, made the calls cs one after another on a buffer that held w, and it holds w' in the end: each call was lent the
-- words that the one before it left, and met its contract.
pub data Made : List ℕ → List Call → List ℕ → Type 0 where
  none : (w : List ℕ) → Made w [] w
  moved : (w new w' : List ℕ) (a : ℕ) (r : Returned Moved) (cs : List Call) → MovesCall w a r new → Made new cs w' → Made w (move a ∷ cs) w'
  ran : (w new w' : List ℕ) (es : List ℕ) (r : Returned Ran) (cs : List Call) → RunsCall w es r new → Made new cs w' → Made w (run es ∷ cs) w'

unfoldable pub Claim : Unit {0}
unfolding entries leaves left_by events_of trace traced_from moved_by moves_of senders creators written
Claim = tt
