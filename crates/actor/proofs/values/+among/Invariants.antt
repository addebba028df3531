use Rattle.actor.proofs.values.+among.Given as goal

abbrev pub decreases-among : goal.decreases-among
decreases-among l = l.n
