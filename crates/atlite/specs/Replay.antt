-- What the program `replay` prints for an input: the answer to each call, then the listing. Assumes nothing.
--
-- Document 01 has no such program; docs/MANUAL.md says what it is for.
--
-- A line of calls is a number of tokens with one space between each two, or empty. A token of digits is one call for each digit, the move of
-- that actor; digits from 4 to 9 name no actor and are calls all the same. The line is judged before anything else is looked at.
use Rattle.std.specs.Prelude.{ℕ, List, [], ◌∷◌, ◌++◌, eqb, if◌then◌else◌}
use Rattle.std.proofs.Math.Option.{Option, none, some}
use Rattle.atlite.specs.Base.{Result, done, refused, ◌>>=◌, bytes}
use Rattle.atlite.specs.Lexicon.{Bytes, space, newline, is_digit}
use Rattle.atlite.specs.Printer.{print_number, print_items}
use Rattle.atlite.specs.State.{State}
use Rattle.atlite.specs.Move.{Answer, Inner, Taken, Sent, Created, AfterMove, move}
use Rattle.atlite.specs.Program.{Input, split, short, started, listed, shown}
use Rattle.atlite.specs.Loops as Loops
use Rattle.atlite.specs.Loops.{entry}

-- ---- the line of calls
-- a byte before the first token
unfoldable pub before : ℕ → List Bytes → List Bytes
before b [] = (b ∷ []) ∷ []
before b (t ∷ ts) = (b ∷ t) ∷ ts

-- what stands between the spaces of a line
unfoldable pub between : Bytes → List Bytes
between [] = [] ∷ []
between (b ∷ w) = if eqb b space then [] ∷ between w else before b (between w)

unfoldable pub tokens : Bytes → List Bytes
tokens [] = []
tokens (b ∷ w) = between (b ∷ w)

-- the calls of digits, before others
unfoldable pub digit_calls : Bytes → Option (List ℕ) → Option (List ℕ)
digit_calls [] es = es
digit_calls (b ∷ w) es = if is_digit b then entry b (digit_calls w es) else none

-- the calls of a token, before others
unfoldable pub token : Bytes → Option (List ℕ) → Option (List ℕ)
token [] es = none
token (b ∷ w) es = digit_calls (b ∷ w) es

unfoldable pub calls : List Bytes → Option (List ℕ)
calls [] = some []
calls (t ∷ ts) = token t (calls ts)

-- ---- the answers
unfoldable pub answer_text : Answer → Bytes
answer_text Inner = bytes "I"
answer_text Taken = bytes "T"
answer_text (Sent a) = bytes "S" ++ print_number a
answer_text (Created a) = bytes "C" ++ print_number a

-- what the calls so far have answered, and the state that they leave
pub record Replayed : Type 0 where
  pub answers : List Bytes
  pub state : State

-- one call more, by what its move gave
unfoldable pub after_call : Replayed → Result AfterMove → Replayed
after_call R (done M) = record { answers = R.answers ++ (answer_text M.answer ∷ []); state = M.state }
after_call R (refused n) = record { answers = R.answers ++ (print_number n ∷ []); state = R.state }

unfoldable pub call_from : Replayed → List ℕ → Replayed
call_from R [] = R
call_from R (a ∷ es) = call_from (after_call R (move R.state a)) es

unfoldable pub called : State → List ℕ → Replayed
called σ es = call_from (record { answers = []; state = σ }) es

-- ---- the program
unfoldable pub replayed : List ℕ → Bytes → Result Bytes
replayed es t = do
  σ ← started t
  let R = called σ es
  l ← listed R.state
  done (print_items R.answers ++ (newline ∷ l))

unfoldable pub bad_token : Bytes
bad_token = bytes "(bad token)\n"

unfoldable pub told : Option (List ℕ) → Bytes → Bytes
told none t = bad_token
told (some es) t = shown (replayed es t)

-- an input with no line, or with one that is too long, has no calls either
unfoldable pub told_of : Option Input → Bytes
told_of none = bad_token
told_of (some i) = told (calls (tokens i.line)) i.script

unfoldable pub replay : Bytes → Bytes
replay w = told_of (short (split w))

-- every definition that `replay` goes through, opened together
unfoldable pub All : Unit {0}
unfolding Loops.All before between tokens digit_calls token calls answer_text after_call call_from called replayed bad_token told told_of replay
All = tt
