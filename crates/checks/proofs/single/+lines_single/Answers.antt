-- One law for each way to return.
use Rattle.checks.specs.SingleLines.{laws}
use Rattle.checks.proofs.single.+lines_single.Goals as goal

pub returns-then-left-eq0 : goal.returns-then-left-eq0
returns-then-left-eq0 t c = search laws

pub returns-then-s-at : goal.returns-then-s-at
returns-then-s-at t c = search laws

pub returns-in_default : goal.returns-in_default
returns-in_default t c = search laws

pub returns : goal.returns
returns t c = search laws
