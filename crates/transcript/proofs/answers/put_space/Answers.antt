-- `put_space` meets its contract. Assumes nothing.
use Rattle.transcript.specs.AnswerTexts.{gap-none, gap-put}
use Rattle.transcript.proofs.answers.put_space.Goals as goal

pub returns-then-i-ne0 : goal.returns-then-i-ne0
returns-then-i-ne0 c = gap-put _ c.if-i-ne0.true c.put.ensures

pub returns-else-i-ne0 : goal.returns-else-i-ne0
returns-else-i-ne0 c = gap-none c.if-i-ne0.false
