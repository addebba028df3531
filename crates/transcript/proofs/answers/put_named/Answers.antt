-- `put_named` meets its contract. Assumes nothing.
use Rattle.std.proofs.Common.{arith}
use Rattle.transcript.specs.AnswerTexts.{named_put}
use Rattle.transcript.proofs.answers.put_named.Goals as goal

pub returns : goal.returns
returns c = named_put c.from.ensures (omega arith) _ c.put.ensures c.put_number.ensures
