-- `text::keyword` meets its contract: one answer for each kind that has a word. Assumes nothing.
use Rattle.atlite.specs.Base.{bytes}
use Rattle.decoding.specs.Kinds.{Words}
use Rattle.showing.specs.PutLaws.{Passing, keys}
use Rattle.showing.proofs.text.keyword.Goals as goal

pub returns-in-1 : goal.returns-in-1
unfolding Words bytes Passing
returns-in-1 c = search keys

pub returns-in-6 : goal.returns-in-6
unfolding Words bytes Passing
returns-in-6 c = search keys

pub returns-in-7 : goal.returns-in-7
unfolding Words bytes Passing
returns-in-7 c = search keys

pub returns-in-8 : goal.returns-in-8
unfolding Words bytes Passing
returns-in-8 c = search keys

pub returns-in-9 : goal.returns-in-9
unfolding Words bytes Passing
returns-in-9 c = search keys

pub returns-in-10 : goal.returns-in-10
unfolding Words bytes Passing
returns-in-10 c = search keys

pub returns-in-11 : goal.returns-in-11
unfolding Words bytes Passing
returns-in-11 c = search keys

pub returns-in-12 : goal.returns-in-12
unfolding Words bytes Passing
returns-in-12 c = search keys

pub returns-in-13 : goal.returns-in-13
unfolding Words bytes Passing
returns-in-13 c = search keys

pub returns-in-14 : goal.returns-in-14
unfolding Words bytes Passing
returns-in-14 c = search keys

pub returns-in-15 : goal.returns-in-15
unfolding Words bytes Passing
returns-in-15 c = search keys

pub returns-in-16 : goal.returns-in-16
unfolding Words bytes Passing
returns-in-16 c = search keys

pub returns-in-17 : goal.returns-in-17
unfolding Words bytes Passing
returns-in-17 c = search keys

pub returns-in-18 : goal.returns-in-18
unfolding Words bytes Passing
returns-in-18 c = search keys

pub returns-in-19 : goal.returns-in-19
unfolding Words bytes Passing
returns-in-19 c = search keys

pub returns-in-64 : goal.returns-in-64
unfolding Words bytes Passing
returns-in-64 c = search keys

pub returns-in-65 : goal.returns-in-65
unfolding Words bytes Passing
returns-in-65 c = search keys

pub returns-in-66 : goal.returns-in-66
unfolding Words bytes Passing
returns-in-66 c = search keys

pub returns-in-67 : goal.returns-in-67
unfolding Words bytes Passing
returns-in-67 c = search keys

pub returns-in-68 : goal.returns-in-68
unfolding Words bytes Passing
returns-in-68 c = search keys

pub returns-in-128 : goal.returns-in-128
unfolding Words bytes Passing
returns-in-128 c = search keys

pub returns-in-130 : goal.returns-in-130
unfolding Words bytes Passing
returns-in-130 c = search keys

pub returns-in-192 : goal.returns-in-192
unfolding Words bytes Passing
returns-in-192 c = search keys

pub returns-in_default : goal.returns-in_default
unfolding Words bytes Passing
returns-in_default c = search keys
