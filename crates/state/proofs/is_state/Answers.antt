-- The test answers as the words are a state or none. Assumes nothing.
use Rattle.state.specs.TestLaws.{laws}
use Rattle.state.proofs.is_state.Goals as goal

pub returns-then-words-lt-STATE : goal.returns-then-words-lt-STATE
returns-then-words-lt-STATE c = search laws

pub returns : goal.returns
returns c = search laws
