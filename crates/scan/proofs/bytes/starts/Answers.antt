-- What the library says of lists, in the words of the reader. Assumes nothing.
use Rattle.scan.specs.RunLaws.{starts-as}
use Rattle.scan.proofs.bytes.starts.Goals as goal

pub returns : goal.returns
returns c = starts-as _ _ _ _ c.requires c.starts_with.ensures.bound c.starts_with.ensures.value
