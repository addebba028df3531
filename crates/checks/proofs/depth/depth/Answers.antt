-- One byte more, and the end.
use Rattle.checks.specs.Depth.{laws}
use Rattle.std.proofs.Common.{rules}
use Rattle.checks.proofs.depth.depth.Goals as goal

pub loop-b-init : goal.loop-b-init
loop-b-init c = record { left = search laws; few = search rules; seen = search rules }

pub loop-b-preserved : goal.loop-b-preserved
loop-b-preserved c = record { left = search laws; few = search laws; seen = search laws }

pub returns : goal.returns
returns c = search laws
