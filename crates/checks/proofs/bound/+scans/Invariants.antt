-- What is left of the words falls; at one place a scan is called from its trees inside.
use Rattle.std.proofs.Common.{◌+◌, ◌*◌, ◌-◌}
use Rattle.checks.proofs.bound.+scans.Given as goal

abbrev pub decreases-scan : goal.decreases-scan
decreases-scan l = 2 * (4096 - l.at)

abbrev pub decreases-scan_inside : goal.decreases-scan_inside
decreases-scan_inside l = 2 * (4096 - l.at) + 1
