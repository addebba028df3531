-- What is left to take are the bytes before i. Assumes nothing.
use Rattle.scan.specs.WordNumbers.{Numbered}
use Rattle.scan.proofs.codes.number.Given as goal

abbrev pub invariant-loop-i : goal.invariant-loop-i
invariant-loop-i l = Numbered l.bytes l.i l.n
