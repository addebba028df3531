-- One law for each way to return.
use Rattle.checks.specs.Single.{walk_laws}
use Rattle.checks.proofs.single.+walk.Goals as goal

pub returns-then-n-eq0-clause-walked : goal.returns-then-n-eq0-clause-walked
returns-then-n-eq0-clause-walked t c = search walk_laws

pub returns-then-s-at-clause-walked : goal.returns-then-s-at-clause-walked
returns-then-s-at-clause-walked t c = search walk_laws

pub returns-then-not-own-clause-walked : goal.returns-then-not-own-clause-walked
returns-then-not-own-clause-walked t c = search walk_laws

pub returns-in_err-m-clause-walked : goal.returns-in_err-m-clause-walked
returns-in_err-m-clause-walked t c = search walk_laws

pub returns-in_err-e-clause-walked : goal.returns-in_err-e-clause-walked
returns-in_err-e-clause-walked t c = search walk_laws

pub returns-clause-walked : goal.returns-clause-walked
returns-clause-walked t c = search walk_laws
