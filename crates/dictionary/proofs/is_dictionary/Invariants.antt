-- The entries that are left decide of all.
use Rattle.dictionary.specs.EntryLaws.{Holding}
use Rattle.dictionary.proofs.is_dictionary.Given as goal

abbrev pub invariant-loop-k : goal.invariant-loop-k
invariant-loop-k l = Holding l.w l.at l.n l.k
