-- `heads::second_name` meets its contract. Assumes nothing.
use Rattle.showing.specs.TextOfWords.{second}
use Rattle.showing.specs.HeadLaws.{seconds}
use Rattle.showing.proofs.heads.second_name.Goals as goal

pub returns-in-12 : goal.returns-in-12
unfolding second
returns-in-12 c = search seconds

pub returns-in_default : goal.returns-in_default
unfolding second
returns-in_default c = search seconds
