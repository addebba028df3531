-- Each way to return has its law. Assumes nothing.
use Rattle.scan.specs.DictionaryLaws.{laws}
use Rattle.scan.proofs.vocabulary.Vocabulary.note.Goals as goal

pub returns-then-not-is_word : goal.returns-then-not-is_word
returns-then-not-is_word c = search laws

pub returns-then-named : goal.returns-then-named
returns-then-named c = search laws

pub add-requires : goal.add-requires
add-requires c = (search laws, search laws, search laws)

pub returns : goal.returns
returns c = search laws
