-- What is left to write, written, gives what was asked.
use Rattle.checks.specs.TableWriteLaws.{Wording}
use Rattle.checks.proofs.table.put_words.Given as goal

abbrev pub invariant-loop-k : goal.invariant-loop-k
invariant-loop-k l = Wording l.initial.table l.low l.high l.count l.table l.k
