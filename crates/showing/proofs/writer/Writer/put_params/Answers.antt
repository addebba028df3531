-- `Writer::put_params` puts three names, or nothing. Assumes nothing.
use Rattle.std.proofs.Common.{arith}
use Rattle.showing.specs.HeadLaws.{params_none, params-some}
use Rattle.showing.proofs.writer.Writer.put_params.Goals as goal

pub returns-then-h-ge-METHOD : goal.returns-then-h-ge-METHOD
returns-then-h-ge-METHOD c = params-some _ _ c.if-h-ge-METHOD.true c.put_places.ensures

pub returns-else-h-ge-METHOD : goal.returns-else-h-ge-METHOD
returns-else-h-ge-METHOD c = params_none _ _ (omega arith)
