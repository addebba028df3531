-- The numbers of an answer are those of what the call is promised to answer. Assumes nothing.
use Rattle.std.specs.Prelude.{ℕ, ◌≡◌}
use Rattle.std.proofs.Common.{ap, ◌∙◌, rules}
use Rattle.atlite.specs.Base.{Result}
use Rattle.atlite.specs.Answers.{Returned}
use Rattle.atlite.specs.Causes.{number}
use Rattle.promises.specs.CallNumbers.{cause, place}
use Rattle.refusals.specs.ReturnedAs.{returned_as, read-is, load-is, print-is, list-is, move-is, run-is}

-- n is the number of what was answered, R, which is what is promised, S
module _ {A : Type 0} (n : ℕ) (R S : Result A) where
  pub cause-is : n ≡ cause R → R ≡ S → n ≡ cause S
  cause-is h e = h ∙ ap cause e

  pub place_is : (f : A → ℕ) (old : ℕ) → n ≡ place f old R → R ≡ S → n ≡ place f old S
  place_is f old h e = h ∙ ap (place f old) e

-- what was returned, r, is the answer R where a refusal is told by its cause, and R is what is promised, S
pub told-is : {A B : Type 0} (f : A → B) (r : Returned A) {R S : Result B} → R ≡ S → returned_as f number r ≡ R → returned_as f number r ≡ S
told-is f r e h = h ∙ e

pub ruleset laws = (rules, cause-is, place_is, told-is, read-is, load-is, print-is, list-is, move-is, run-is)
