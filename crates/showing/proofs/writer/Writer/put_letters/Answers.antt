-- `Writer::put_letters` puts the letters one behind another. Assumes nothing.
use Rattle.std.proofs.Common.{arith}
use Rattle.showing.specs.PutLaws.{letters-none, letters-more, letters-all}
use Rattle.showing.proofs.writer.Writer.put_letters.Goals as goal

pub loop-b-init : goal.loop-b-init
loop-b-init c = letters-none

pub loop-b-preserved : goal.loop-b-preserved
loop-b-preserved c = letters-more _ _ (omega arith) c.loop-b.invariant c.put_letter.ensures

pub returns : goal.returns
returns c = letters-all _ _ (omega arith) c.to_le_bytes-b-items.ensures (omega arith) c.loop-b.invariant
