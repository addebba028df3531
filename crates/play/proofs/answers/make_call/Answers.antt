-- `make_call` meets its contract. Assumes nothing.
use Rattle.transcript.specs.AnswerTexts.{told-by-cause}
use Rattle.play.specs.Calls.{call-made}
use Rattle.play.proofs.answers.make_call.Goals as goal

pub returns : goal.returns
returns c = call-made _ _ _ _ _ c.move_actor-answer.ensures.0 c.move_actor-answer.ensures.1 c.put_space.ensures (told-by-cause _ c.put_answer.ensures)
