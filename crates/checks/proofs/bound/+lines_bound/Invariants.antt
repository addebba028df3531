use Rattle.checks.proofs.bound.+lines_bound.Given as goal

abbrev pub decreases-lines_bound : goal.decreases-lines_bound
decreases-lines_bound l = l.left
