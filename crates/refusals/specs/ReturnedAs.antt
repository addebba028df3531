-- Which answer of document 01 an answer of the code is, whatever its refusal is told by; where that is a cause, it is the answer that crate
-- `atlite` gives for each call. Assumes nothing.
use Rattle.std.specs.Prelude.{ℕ, ◌≡◌, refl, Ok, Err}
use Rattle.std.specs.Prelude as Code
use Rattle.atlite.specs.Base.{Result, done, refused}
use Rattle.atlite.specs.Move.{Answer}
use Rattle.atlite.specs.Run.{Counts}
use Rattle.atlite.specs.Answers.{Returned, move_answer, run_answer, read_answer, load_answer, print_answer, list_answer}
use Rattle.atlite.specs.Causes.{number}
use Rattle.atlite.specs.declared.Moved.{Moved}
use Rattle.atlite.specs.declared.Moved.TheVariants as M
use Rattle.atlite.specs.declared.Ran.{Ran}

-- what was returned, as an answer: a done call comes to f of it, and the number of a refusal c is why c
unfoldable pub returned_as : {A B C : Type 0} → (A → B) → (C → ℕ) → Code.Result A C → Result B
returned_as f why (Ok x) = done (f x)
returned_as f why (Err c) = refused (why c)

-- what a call comes to that answers nothing, or a length: the same
unfoldable pub as_is : {A : Type 0} → A → A
as_is x = x

-- what a move comes to
unfoldable pub moved_as : Moved → Answer
moved_as M.Inner = Answer.Inner
moved_as M.Taken = Answer.Taken
moved_as (M.Sent a) = Answer.Sent a.0
moved_as (M.Created a) = Answer.Created a.0

-- what a run comes to
unfoldable pub ran_as : Ran → Counts
ran_as r = record { moves = r.moves; refusals = r.refusals }

-- ---- at a cause
pub read-is : (r : Returned (Unit {0})) → returned_as as_is number r ≡ read_answer r
unfolding returned_as as_is read_answer
read-is (Ok x) = refl
read-is (Err c) = refl

pub load-is : (r : Returned (Unit {0})) → returned_as as_is number r ≡ load_answer r
unfolding returned_as as_is load_answer
load-is (Ok x) = refl
load-is (Err c) = refl

pub print-is : (r : Returned ℕ) → returned_as as_is number r ≡ print_answer r
unfolding returned_as as_is print_answer
print-is (Ok n) = refl
print-is (Err c) = refl

pub list-is : (r : Returned ℕ) → returned_as as_is number r ≡ list_answer r
unfolding returned_as as_is list_answer
list-is (Ok n) = refl
list-is (Err c) = refl

pub move-is : (r : Returned Moved) → returned_as moved_as number r ≡ move_answer r
unfolding returned_as moved_as move_answer
move-is (Ok M.Inner) = refl
move-is (Ok M.Taken) = refl
move-is (Ok (M.Sent a)) = refl
move-is (Ok (M.Created a)) = refl
move-is (Err c) = refl

pub run-is : (r : Returned Ran) → returned_as ran_as number r ≡ run_answer r
unfolding returned_as ran_as run_answer
run-is (Ok c) = refl
run-is (Err c) = refl
