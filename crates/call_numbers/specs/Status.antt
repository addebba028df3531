-- The number that a call returns, by what it came to: the same for each of the six, whatever else they answer. Assumes nothing.
use Rattle.std.specs.Prelude.{ℕ, ◌≡◌, Ok, Err, refl}
use Rattle.std.specs.Prelude as Code
use Rattle.std.proofs.Common.{ap, ◌∙◌}
use Rattle.atlite.specs.Base.{Result}
use Rattle.atlite.specs.Answers.{Returned, move_answer, run_answer, read_answer, load_answer, print_answer, list_answer}
use Rattle.atlite.specs.Causes.{number}
use Rattle.atlite.specs.declared.Moved.{Moved}
use Rattle.atlite.specs.declared.Ran.{Ran}
use Rattle.promises.specs.CallNumbers.{cause}
use Rattle.refusals.specs.ReturnedAs.{returned_as, as_is, moved_as, ran_as, read-is, load-is, print-is, list-is, move-is, run-is}

abbrev pub status_of : {A C : Type 0} → (C → ℕ) → Code.Result A C → ℕ
status_of why (Ok x) = 0
status_of why (Err c) = why c

-- whatever a done call comes to, and whatever a refusal is told by
pub status : {A B C : Type 0} (f : A → B) (why : C → ℕ) (r : Code.Result A C) → status_of why r ≡ cause (returned_as f why r)
unfolding returned_as cause
status f why (Ok x) = refl
status f why (Err c) = refl

-- the same where a refusal is told by its cause, of what each call comes to
module _ {A B : Type 0} (f : A → B) (answer : Returned A → Result B) (is : (r : Returned A) → returned_as f number r ≡ answer r) where
  cause_status : (r : Returned A) → status_of number r ≡ cause (answer r)
  cause_status r = status f number r ∙ ap cause (is r)

pub read_status : (r : Returned (Unit {0})) → status_of number r ≡ cause (read_answer r)
read_status = cause_status as_is read_answer read-is

pub load_status : (r : Returned (Unit {0})) → status_of number r ≡ cause (load_answer r)
load_status = cause_status as_is load_answer load-is

pub print_status : (r : Returned ℕ) → status_of number r ≡ cause (print_answer r)
print_status = cause_status as_is print_answer print-is

pub list_status : (r : Returned ℕ) → status_of number r ≡ cause (list_answer r)
list_status = cause_status as_is list_answer list-is

pub move_status : (r : Returned Moved) → status_of number r ≡ cause (move_answer r)
move_status = cause_status moved_as move_answer move-is

pub run_status : (r : Returned Ran) → status_of number r ≡ cause (run_answer r)
run_status = cause_status ran_as run_answer run-is

pub ruleset laws = (status, read_status, load_status, print_status, list_status, move_status, run_status)
