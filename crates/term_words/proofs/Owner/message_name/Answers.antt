-- By the tag: a name, or an empty place with one argument.
use Rattle.term_words.specs.WordLaws.{message_laws}
use Rattle.term_words.proofs.Owner.message_name.Goals as goal

pub returns-in-0 : goal.returns-in-0
returns-in-0 c = search message_laws

pub returns-in-1 : goal.returns-in-1
returns-in-1 c = search message_laws

pub returns-in_default : goal.returns-in_default
returns-in_default c = search message_laws
