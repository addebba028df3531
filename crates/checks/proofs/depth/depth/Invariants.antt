-- The depth from the bytes not yet read on is the depth of the text; no more brackets are open than bytes were read, nor than were open at most.
use Rattle.std.proofs.Common.{◌≤◌}
use Rattle.checks.specs.Depth.{Deepening}
use Rattle.checks.proofs.depth.depth.Given as goal

abbrev pub invariant-loop-b : goal.invariant-loop-b
invariant-loop-b l = record { left : Deepening l.text l.up l.most l.b-index; few : l.up ≤ l.b-index; seen : l.up ≤ l.most }
