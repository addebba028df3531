-- The six calls on lent lists, whatever stands in them: what each returns, and the lent list that it writes, afterwards.
-- Assumes nothing.
--
-- Document 01, "Limits and what stops a call", causes 6 and 7 and the paragraph under the table.
--
-- A call is the list of its causes in their order, then its answer with the words or bytes to write. Published lengths come
-- first (6), then words that are no table or no state (7), then what reading, loading or moving refuses; a text that does not
-- fit (6 too) comes last. What is written stands in front, and what lies past it is kept; a refusal writes nothing. A list that
-- a call only reads is not in its reply: it stays as it was.
use Rattle.std.specs.Prelude.{ℕ, List, ◌++◌, ◌≡◌, length, take, drop, leb}
use Rattle.atlite.specs.Base.{Result, done, refused, ◌>>=◌, ◌>>◌, require, or_refuse}
use Rattle.atlite.specs.State.{State}
use Rattle.atlite.specs.Move.{Answer, move}
use Rattle.atlite.specs.Run.{run, Counts}
use Rattle.atlite.specs.Listing.{listing}
use Rattle.atlite.specs.Keywords.{operators}
use Rattle.atlite.specs.Table.{text_of, Table, read}
use Rattle.atlite.specs.Load.{load}
use Rattle.atlite.specs.Answers.{Returned, move_answer, run_answer, list_answer}
use Rattle.atlite.specs.declared.Moved.{Moved}
use Rattle.atlite.specs.declared.Ran.{Ran}
use Rattle.layout.specs.Numbers.{state_words, table_words}
use Rattle.layout.specs.Layout.{encode}
use Rattle.decoding.specs.Decode.{state_of}
use Rattle.layout.specs.Tables.{encode_table}
use Rattle.decoding.specs.TableReading.{table_of}

-- what a call returns, and the list that it writes, afterwards
pub record Reply (A : Type 0) : Type 0 where
  pub result : Result A
  pub buffer : List ℕ

-- the reply of a call that is refused, or that answers and writes
unfoldable pub answered : {A : Type 0} → List ℕ → Result (A × List ℕ) → Reply A
answered old (refused n) = record { result = refused n; buffer = old }
answered old (done r) = record { result = done r.0; buffer = r.1 ++ drop (length r.1) old }

-- a lent list has room for n
unfoldable pub room : ℕ → List ℕ → Result (Unit {0})
room n w = require 6 (leb n (length w))

-- The table, or the state, that the published words are. `table_of` and `state_of` compute it and are not to be believed for what they do but for
-- what they come to: `table_of w` is some T exactly if `IsTable T` and `encode_table T` is w (`table-of-iff` of crate `layout_laws`, module
-- TableLaws), and `state_of w` is some σ exactly if `IsState σ` and `encode σ` is w (`state-of-iff`, module StateLaws).
unfoldable pub table_in : List ℕ → Result Table
table_in w = or_refuse 7 (table_of (take table_words w))

unfoldable pub state_in : List ℕ → Result State
state_in w = or_refuse 7 (state_of (take state_words w))

-- the state in a lent list: 6, then 7
unfoldable pub lent : List ℕ → Result State
lent w = room state_words w >> state_in w

-- ---- tables
unfoldable pub read_call : List ℕ → List ℕ → Reply (Unit {0})
read_call text table = answered table (do
  room table_words table
  T ← read operators text
  done (tt, encode_table T))

unfoldable pub print_call : List ℕ → List ℕ → Reply ℕ
print_call table text = answered text (do
  room table_words table
  T ← table_in table
  room (length (text_of T)) text
  done (length (text_of T), text_of T))

-- the words that the state's list held do not matter
unfoldable pub load_call : List ℕ → List ℕ → Reply (Unit {0})
load_call table state = answered state (do
  room table_words table
  room state_words state
  T ← table_in table
  σ ← load T
  done (tt, encode σ))

-- ---- states
unfoldable pub move_call : List ℕ → ℕ → Reply Answer
move_call state a = answered state (do
  σ ← lent state
  M ← move σ a
  done (M.answer, encode M.state))

unfoldable pub run_call : List ℕ → List ℕ → Reply Counts
run_call state entries = answered state (do
  σ ← lent state
  let R = run σ entries
  done (R.counts, encode R.state))

unfoldable pub list_call : List ℕ → List ℕ → Reply ℕ
list_call state text = answered text (do
  σ ← lent state
  room (length (listing σ)) text
  done (length (listing σ), listing σ))

-- ---- calls that were made
-- What was answered and what the written list holds are what the call says of the lists that it was lent. So the contracts of the code's calls
-- say it of a move, a run and a listing; whatever code meets them is meant where two lists of calls are compared (`Claim`).
unfoldable pub MovesCall : List ℕ → ℕ → Returned Moved → List ℕ → Type 0
MovesCall old a r new = (move_answer r ≡ (move_call old a).result) × (new ≡ (move_call old a).buffer)

unfoldable pub RunsCall : List ℕ → List ℕ → Returned Ran → List ℕ → Type 0
RunsCall old entries r new = (run_answer r ≡ (run_call old entries).result) × (new ≡ (run_call old entries).buffer)

unfoldable pub ListsCall : List ℕ → List ℕ → Returned ℕ → List ℕ → Type 0
ListsCall state old r new = (list_answer r ≡ (list_call state old).result) × (new ≡ (list_call state old).buffer)

unfoldable pub Meaning : Unit {0}
unfolding answered room table_in state_in lent read_call print_call load_call move_call run_call list_call
Meaning = tt
