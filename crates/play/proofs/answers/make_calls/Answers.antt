-- `make_calls` meets its contract. Assumes nothing.
use Rattle.std.proofs.Common.{arith}
use Rattle.std.proofs.Common.{sym, ◌∙◌}
use Rattle.play.specs.Calls.{call_ends}
use Rattle.play.proofs.answers.make_calls.Goals as goal

pub answer_calls-requires : goal.answer_calls-requires
answer_calls-requires c =
    record {
      held = c.requires.0;
      short = c.requires.1;
      size = rw c.new-text.ensures.bytes c.requires.2;
      empty = c.new-text.ensures.empty;
    }

pub returns : goal.returns
returns c =
    let w = call_ends c.answer_calls.ensures (omega arith) c.put.ensures in
    let s = sym (c.put.ensures.same ∙ c.answer_calls.ensures.same ∙ c.new-text.ensures.same) in
    rw (c.len.ensures, c.out-1.given.1.1 s) w
