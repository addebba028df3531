-- What falls is the number of parameters that may still come. Assumes nothing.
use Rattle.lexemes.proofs.source.Source.+items.Given as goal

abbrev pub decreases-items : goal.decreases-items
decreases-items l = l.k
