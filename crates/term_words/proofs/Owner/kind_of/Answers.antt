-- No entity has so high a number.
use Rattle.term_words.specs.WordLaws.{kind_laws}
use Rattle.term_words.proofs.Owner.kind_of.Goals as goal

pub returns-in_default : goal.returns-in_default
returns-in_default c = search kind_laws

pub returns-in_default-2 : goal.returns-in_default-2
returns-in_default-2 c = search kind_laws
