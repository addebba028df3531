-- One law for each way to return; what was changed on the way is put back.
use Rattle.checks.specs.Bound.{scan_laws}
use Rattle.checks.proofs.bound.+scans.Goals as goal

pub scan-returns-then-n-eq0-clause-scanned : goal.scan-returns-then-n-eq0-clause-scanned
scan-returns-then-n-eq0-clause-scanned t c = search scan_laws

pub scan-returns-then-n-eq0-clause-kept : goal.scan-returns-then-n-eq0-clause-kept
scan-returns-then-n-eq0-clause-kept t c = search scan_laws

pub scan-returns-then-s-at-clause-scanned : goal.scan-returns-then-s-at-clause-scanned
scan-returns-then-s-at-clause-scanned t c = search scan_laws

pub scan-returns-then-s-at-clause-kept : goal.scan-returns-then-s-at-clause-kept
scan-returns-then-s-at-clause-kept t c = search scan_laws

pub scan-returns-then-not-sees-clause-scanned : goal.scan-returns-then-not-sees-clause-scanned
scan-returns-then-not-sees-clause-scanned t c = search scan_laws

pub scan-returns-then-not-sees-clause-kept : goal.scan-returns-then-not-sees-clause-kept
scan-returns-then-not-sees-clause-kept t c = search scan_laws

pub scan-returns-in_err-m-clause-scanned : goal.scan-returns-in_err-m-clause-scanned
scan-returns-in_err-m-clause-scanned t c = search scan_laws

pub scan-returns-in_err-e-clause-scanned : goal.scan-returns-in_err-e-clause-scanned
scan-returns-in_err-e-clause-scanned t c = search scan_laws

pub scan-returns-in_err-e-clause-kept : goal.scan-returns-in_err-e-clause-kept
scan-returns-in_err-e-clause-kept t c = search scan_laws

pub scan-returns-clause-scanned : goal.scan-returns-clause-scanned
scan-returns-clause-scanned t c = search scan_laws

pub scan-returns-clause-kept : goal.scan-returns-clause-kept
scan-returns-clause-kept t c = search scan_laws

pub scan_inside-returns-clause-kept : goal.scan_inside-returns-clause-kept
scan_inside-returns-clause-kept t c = search scan_laws

pub scan_inside-returns-clause-scanned : goal.scan_inside-returns-clause-scanned
scan_inside-returns-clause-scanned t c = search scan_laws
