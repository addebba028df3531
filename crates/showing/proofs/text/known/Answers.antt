-- `text::known` meets its contract: one answer for each word. Assumes nothing.
use Rattle.atlite.specs.Base.{bytes}
use Rattle.decoding.specs.Kinds.{Words}
use Rattle.showing.specs.TextOfWords.{known_in}
use Rattle.showing.specs.PutLaws.{knowns}
use Rattle.showing.proofs.text.known.Goals as goal

pub returns-in-0 : goal.returns-in-0
unfolding known_in Words bytes
returns-in-0 c = search knowns

pub returns-in-1 : goal.returns-in-1
unfolding known_in Words bytes
returns-in-1 c = search knowns

pub returns-in-2 : goal.returns-in-2
unfolding known_in Words bytes
returns-in-2 c = search knowns

pub returns-in-3 : goal.returns-in-3
unfolding known_in Words bytes
returns-in-3 c = search knowns

pub returns-in-4 : goal.returns-in-4
unfolding known_in Words bytes
returns-in-4 c = search knowns

pub returns-in-5 : goal.returns-in-5
unfolding known_in Words bytes
returns-in-5 c = search knowns

pub returns-in-6 : goal.returns-in-6
unfolding known_in Words bytes
returns-in-6 c = search knowns

pub returns-in_default : goal.returns-in_default
unfolding known_in Words bytes
returns-in_default c = search knowns
