-- `Writer::put_head` puts its parts in a row. Assumes nothing.
use Rattle.showing.specs.Put.{then}
use Rattle.showing.specs.TextOfWords.{head_in}
use Rattle.showing.proofs.writer.Writer.put_head.Goals as goal

pub returns : goal.returns
unfolding head_in
returns c = then c.put_operator.ensures (then (rw c.first_name-first.ensures at c.put_name.ensures) (then (rw c.second_name-second.ensures at c.put_name-2.ensures) c.put_params.ensures))
