-- Which answer of document 01 each answer of the code is. Assumes nothing.
--
-- The contracts of the engine go through these functions: a refusal is the number of its cause, any other case what the definitions
-- give for the call.
use Rattle.std.specs.Prelude.{ℕ, Ok, Err}
use Rattle.std.specs.Prelude as Code
use Rattle.atlite.specs.Base.{Result, done, refused}
use Rattle.atlite.specs.Move.{Answer}
use Rattle.atlite.specs.Run.{Counts}
use Rattle.atlite.specs.Causes.{number}
use Rattle.atlite.specs.declared.Cause.{Cause}
use Rattle.atlite.specs.declared.Moved.{Moved}
use Rattle.atlite.specs.declared.Moved.TheVariants as M
use Rattle.atlite.specs.declared.Ran.{Ran}

-- what a call returns: what it came to, or the cause that stopped it
abbrev pub Returned : Type 0 → Type 0
Returned A = Code.Result A Cause

unfoldable pub move_answer : Returned Moved → Result Answer
move_answer (Ok M.Inner) = done Answer.Inner
move_answer (Ok M.Taken) = done Answer.Taken
move_answer (Ok (M.Sent a)) = done (Answer.Sent a.0)
move_answer (Ok (M.Created a)) = done (Answer.Created a.0)
move_answer (Err c) = refused (number c)

unfoldable pub run_answer : Returned Ran → Result Counts
run_answer (Ok r) = done (record { moves = r.moves; refusals = r.refusals })
run_answer (Err c) = refused (number c)

unfoldable pub read_answer : Returned (Unit {0}) → Result (Unit {0})
read_answer (Ok x) = done tt
read_answer (Err c) = refused (number c)

unfoldable pub load_answer : Returned (Unit {0}) → Result (Unit {0})
load_answer (Ok x) = done tt
load_answer (Err c) = refused (number c)

-- the length of the text that was written
unfoldable pub print_answer : Returned ℕ → Result ℕ
print_answer (Ok n) = done n
print_answer (Err c) = refused (number c)

unfoldable pub list_answer : Returned ℕ → Result ℕ
list_answer (Ok n) = done n
list_answer (Err c) = refused (number c)
