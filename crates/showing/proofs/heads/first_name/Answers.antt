-- `heads::first_name` meets its contract, by the laws of `HeadLaws`. Assumes nothing.
use Rattle.showing.specs.TextOfWords.{first_in}
use Rattle.showing.specs.HeadLaws.{names}
use Rattle.showing.proofs.heads.first_name.Goals as goal

pub returns-in_default : goal.returns-in_default
unfolding first_in
returns-in_default c = search names

pub returns-in_default-2 : goal.returns-in_default-2
unfolding first_in
returns-in_default-2 c = search names

pub returns-in-11 : goal.returns-in-11
unfolding first_in
returns-in-11 c = search names
