-- The entries that are left decide of all.
use Rattle.dictionary.specs.EntryLaws.{Seeking}
use Rattle.dictionary.proofs.again.Given as goal

abbrev pub invariant-loop-k : goal.invariant-loop-k
invariant-loop-k l = Seeking l.w l.at l.n l.it l.k
