-- `answer_calls` meets its contract: the words and the text are those of the calls so far. Assumes nothing.
use Rattle.play.specs.Calls.{Calling}
use Rattle.play.proofs.answers.answer_calls.Given as goal

abbrev pub invariant-loop-i : goal.invariant-loop-i
invariant-loop-i l = Calling l.initial.state l.entries l.initial.text.out.ghost_name l.i l.state l.text
