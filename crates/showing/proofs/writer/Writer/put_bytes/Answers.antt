-- `Writer::put_bytes` puts one byte behind those gone through. Assumes nothing.
use Rattle.std.proofs.Common.{arith}
use Rattle.showing.specs.PutLaws.{bytes-more}
use Rattle.showing.proofs.writer.Writer.put_bytes.Goals as goal

pub loop-b-preserved : goal.loop-b-preserved
loop-b-preserved c = bytes-more _ _ (omega arith) c.loop-b.invariant c.put.ensures
