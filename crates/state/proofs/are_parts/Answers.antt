-- One law for a part that is none, for one more, and for the end.
use Rattle.state.specs.TestLaws.{laws}
use Rattle.state.proofs.are_parts.Goals as goal

pub returns-then-not-is_actor : goal.returns-then-not-is_actor
returns-then-not-is_actor c = search laws

pub loop-a-preserved : goal.loop-a-preserved
loop-a-preserved c = search laws

pub returns : goal.returns
returns c = search laws
