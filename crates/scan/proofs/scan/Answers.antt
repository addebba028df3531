-- At the end all words are found. Assumes nothing.
use Rattle.scan.specs.DictionaryLaws.{laws}
use Rattle.scan.proofs.scan.Goals as goal

pub returns : goal.returns
returns c = search laws
