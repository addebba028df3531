-- What is bound is at a lower level in all literals but an object's.
use Rattle.term_words.specs.ScopeLaws.{laws}
use Rattle.term_words.proofs.scopes.opened.Goals as goal

pub returns-then-h-eq15 : goal.returns-then-h-eq15
returns-then-h-eq15 c = search laws

pub returns : goal.returns
returns c = search laws
