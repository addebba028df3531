-- Where a comparison holds the run is that reserved word; where all fail it is none. Assumes nothing.
use Rattle.scan.specs.Runs.{others}
use Rattle.scan.specs.Keywords.{laws, keyword-not, Compared}
use Rattle.scan.proofs.keywords.other.Goals as goal

pub returns-then-named : goal.returns-then-named
unfolding Compared
returns-then-named c = search laws

pub returns-then-named-2 : goal.returns-then-named-2
unfolding Compared
returns-then-named-2 c = search laws

pub returns-then-named-3 : goal.returns-then-named-3
unfolding Compared
returns-then-named-3 c = search laws

pub returns-then-named-4 : goal.returns-then-named-4
unfolding Compared
returns-then-named-4 c = search laws

pub returns-then-named-5 : goal.returns-then-named-5
unfolding Compared
returns-then-named-5 c = search laws

pub returns-then-named-6 : goal.returns-then-named-6
unfolding Compared
returns-then-named-6 c = search laws

pub returns-then-named-7 : goal.returns-then-named-7
unfolding Compared
returns-then-named-7 c = search laws

pub returns : goal.returns
unfolding Compared
returns c = keyword-not _ others (search laws) (search laws, (search laws, (search laws, (search laws, (search laws, (search laws, (search laws, tt)))))))
