-- `put_answer` meets its contract: a law for each answer. Assumes nothing.
use Rattle.std.proofs.Common.{arith}
use Rattle.transcript.specs.AnswerTexts.{inner-told, taken-told, sent-told, created-told, refused-told}
use Rattle.transcript.proofs.answers.put_answer.Goals as goal

pub returns-in-Ok-Inner : goal.returns-in-Ok-Inner
returns-in-Ok-Inner g c = let i = c.in-Ok-Inner in inner-told _ i.is (rw i.is at i.field-0-is) c.put.ensures

pub returns-in-Ok-Taken : goal.returns-in-Ok-Taken
returns-in-Ok-Taken g c = let i = c.in-Ok-Taken in taken-told _ i.is (rw i.is at i.field-0-is) c.put-in-Ok-Taken.ensures

pub returns-in-Ok-Sent : goal.returns-in-Ok-Sent
returns-in-Ok-Sent g c = let i = c.in-Ok-Sent in sent-told _ i.is i.actor (rw i.is at i.field-0-is) c.put_named.ensures

pub returns-in-Ok-Created : goal.returns-in-Ok-Created
returns-in-Ok-Created g c = let i = c.in-Ok-Created in created-told _ i.is i.actor (rw i.is at i.field-0-is) c.put_named-in-Ok-Created.ensures

pub returns-in-Err : goal.returns-in-Err
returns-in-Err g c = refused-told _ c.in-Err.cause c.in-Err.is (omega arith) (omega arith) c.put_number.ensures
