-- One law for each way to return.
use Rattle.checks.specs.BoundLines.{laws}
use Rattle.checks.proofs.bound.+lines_bound.Goals as goal

pub returns-then-left-eq0-clause-lines_bound : goal.returns-then-left-eq0-clause-lines_bound
returns-then-left-eq0-clause-lines_bound t c = search laws

pub returns-then-left-eq0-clause-kept : goal.returns-then-left-eq0-clause-kept
returns-then-left-eq0-clause-kept t c = search laws

pub returns-then-s-at-clause-lines_bound : goal.returns-then-s-at-clause-lines_bound
returns-then-s-at-clause-lines_bound t c = search laws

pub returns-then-s-at-clause-kept : goal.returns-then-s-at-clause-kept
returns-then-s-at-clause-kept t c = search laws

pub returns-in_default-clause-lines_bound : goal.returns-in_default-clause-lines_bound
returns-in_default-clause-lines_bound t c = search laws

pub returns-then-h-ne130-clause-lines_bound : goal.returns-then-h-ne130-clause-lines_bound
returns-then-h-ne130-clause-lines_bound t c = search laws

pub returns-then-h-ne130-clause-kept : goal.returns-then-h-ne130-clause-kept
returns-then-h-ne130-clause-kept t c = search laws

pub returns-in_default-scan-clause-lines_bound : goal.returns-in_default-scan-clause-lines_bound
returns-in_default-scan-clause-lines_bound t c = search laws

pub returns-clause-lines_bound : goal.returns-clause-lines_bound
returns-clause-lines_bound t c = search laws

pub returns-clause-kept : goal.returns-clause-kept
returns-clause-kept t c = search laws
