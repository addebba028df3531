-- None of the first i words is the one that is sought. Assumes nothing.
use Rattle.std.specs.Prelude.{length}
use Rattle.scan.specs.WordNumbers.{Sought}
use Rattle.scan.proofs.vocabulary.Words.place.Given as goal

abbrev pub invariant-loop-i : goal.invariant-loop-i
invariant-loop-i l = Sought l.self.low.now l.self.high.now (length l.self.low.now) l.low l.high l.i
