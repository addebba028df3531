-- `messages::waits` meets its contract. Assumes nothing.
use Rattle.std.proofs.lemmas.Bool.{false≢true}
use Rattle.lister.specs.SlotLaws.{waits-out, waits-kind, waits-aim}
use Rattle.lister.proofs.messages.waits.Goals as goal

pub returns-then-t-at : goal.returns-then-t-at
returns-then-t-at c = record { is = waits-out _ _ _ c.if-t-at.true; within = λ e. absurd (false≢true e) }

pub returns-then-t-at-2 : goal.returns-then-t-at-2
returns-then-t-at-2 c = record { is = waits-kind c.args.t.now c.args.n c.args.at c.if-t-at-2.true; within = λ e. absurd (false≢true e) }

pub returns : goal.returns
returns c = record { is = waits-aim c.args.t.now c.args.n c.args.at c.if-t-at-2.false c.aim.ensures; within = λ e. c.if-t-at.false }
