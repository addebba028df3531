-- The numbers in which a caller that is not Rattle reads an answer. Assumes nothing.
--
-- Document 01's numbers for causes; the others are ours, and hosts/c/atlite.h publishes them. Every call returns one number: 0 where it was
-- done, else the cause. What else an answer holds goes to places that the caller lends, and these are as they were where the call was refused.
-- No call is refused with 0 (`Returned` of crate `atlite_calls`), so the number never means two things.
use Rattle.std.specs.Prelude.{ℕ}
use Rattle.atlite.specs.Base.{Result, done, refused}
use Rattle.atlite.specs.Move.{Answer}
use Rattle.atlite.specs.Run.{Counts}

-- the number that a call returns: 0 for done, else the cause
unfoldable pub cause : {A : Type 0} → Result A → ℕ
cause (done x) = 0
cause (refused n) = n

-- what a lent place that held old holds afterwards: the number f of what was answered, or still old
unfoldable pub place : {A : Type 0} → (A → ℕ) → ℕ → Result A → ℕ
place f old (done x) = f x
place f old (refused n) = old

-- a number that is an answer itself: the length of a text
unfoldable pub itself : ℕ → ℕ
itself n = n

-- the kind of a move
unfoldable pub kind_of : Answer → ℕ
kind_of Answer.Inner = 1
kind_of Answer.Taken = 2
kind_of (Answer.Sent a) = 3
kind_of (Answer.Created a) = 4

-- the actor that a move sent to or created; a number that no actor has where it did neither
unfoldable pub other_of : Answer → ℕ
other_of Answer.Inner = 255
other_of Answer.Taken = 255
other_of (Answer.Sent a) = a
other_of (Answer.Created a) = a

-- the two counts of a run
unfoldable pub moves_of : Counts → ℕ
moves_of c = c.moves

unfoldable pub refusals_of : Counts → ℕ
refusals_of c = c.refusals
