-- The calls so far stand before the bytes that are left. Assumes nothing.
use Rattle.input_line.specs.Tokens.{Noting}
use Rattle.input_line.proofs.tokens.read_calls.Given as goal

abbrev pub invariant-loop-b : goal.invariant-loop-b
invariant-loop-b l = Noting l.line l.entries l.n l.complete l.b-index
