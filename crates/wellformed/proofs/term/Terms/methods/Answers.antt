use Rattle.wellformed.specs.LiteralLaws.{laws}
use Rattle.wellformed.proofs.term.Terms.methods.Goals as goal

pub returns-clause-value : goal.returns-clause-value
returns-clause-value c = search laws

pub returns-then-count-eq0-clause-value : goal.returns-then-count-eq0-clause-value
returns-then-count-eq0-clause-value c = search laws

pub returns-then-count-gt4-clause-value : goal.returns-then-count-gt4-clause-value
returns-then-count-gt4-clause-value c = search laws
