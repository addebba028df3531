use Rattle.checks.proofs.single.+lines_single.Given as goal

abbrev pub decreases-lines_single : goal.decreases-lines_single
decreases-lines_single l = l.left
