-- Where a comparison holds the run is that reserved word; where all fail it is none. Assumes nothing.
use Rattle.std.proofs.Common.{eqb}
use Rattle.scan.specs.Keywords.{laws, keyword-not, Compared}
use Rattle.scan.proofs.keywords.seven.Goals as goal

pub returns-then-named : goal.returns-then-named
unfolding Compared
returns-then-named c = search laws

pub returns-then-named-2 : goal.returns-then-named-2
unfolding Compared
returns-then-named-2 c = search laws

pub returns-then-named-3 : goal.returns-then-named-3
unfolding Compared
returns-then-named-3 c = search laws

pub returns : goal.returns
unfolding Compared
returns c = keyword-not _ (eqb 7) (search laws) (search laws, (search laws, (search laws, tt)))
