use Rattle.actor.proofs.values.+names.Given as goal

abbrev pub decreases-names : goal.decreases-names
decreases-names l = l.n
