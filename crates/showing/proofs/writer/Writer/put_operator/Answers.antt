-- `Writer::put_operator` puts a bracket and the operator. Assumes nothing.
use Rattle.std.proofs.Common.{arith}
use Rattle.showing.specs.HeadLaws.{operator-whole}
use Rattle.showing.proofs.writer.Writer.put_operator.Goals as goal

pub returns : goal.returns
returns c = operator-whole _ (omega arith) c.put.ensures c.put_keyword.ensures
