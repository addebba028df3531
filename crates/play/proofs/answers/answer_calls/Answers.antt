-- `answer_calls` meets its contract. Assumes nothing.
use Rattle.std.proofs.Common.{arith}
use Rattle.play.specs.Calls.{call-starts, call-goes, call_all}
use Rattle.play.proofs.answers.answer_calls.Goals as goal

pub loop-i-init : goal.loop-i-init
loop-i-init c = call-starts c.requires

pub loop-i-preserved : goal.loop-i-preserved
loop-i-preserved c = call-goes c.loop-i.invariant (omega arith) c.make_call.ensures

pub returns : goal.returns
returns c = call_all c.loop-i.invariant (omega arith)
