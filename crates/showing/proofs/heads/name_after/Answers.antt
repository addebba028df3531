-- `heads::name_after` meets its contract, by the laws of `HeadLaws`. Assumes nothing.
use Rattle.decoding.specs.Kinds.{Kinds}
use Rattle.showing.specs.TextOfWords.{after_in}
use Rattle.showing.specs.HeadLaws.{names}
use Rattle.showing.proofs.heads.name_after.Goals as goal

pub returns-then-operator-eq2 : goal.returns-then-operator-eq2
unfolding after_in Kinds
returns-then-operator-eq2 c = search names

pub returns-in-67 : goal.returns-in-67
unfolding after_in Kinds
returns-in-67 c = search names

pub returns-in_default : goal.returns-in_default
unfolding after_in Kinds
returns-in_default c = search names

pub returns-in-13 : goal.returns-in-13
unfolding after_in Kinds
returns-in-13 c = search names

pub returns-in-14 : goal.returns-in-14
unfolding after_in Kinds
returns-in-14 c = search names

pub returns-in-64 : goal.returns-in-64
unfolding after_in Kinds
returns-in-64 c = search names
