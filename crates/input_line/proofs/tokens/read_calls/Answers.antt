-- `read_calls` meets its contract, by the laws of `Tokens`. Assumes nothing.
use Rattle.std.proofs.Common.{sym, ◌∙◌}
use Rattle.std.proofs.lemmas.Bool.{false≢true}
use Rattle.input_line.specs.Tokens.{reading, note-other, note-space, note-goes}
use Rattle.input_line.proofs.tokens.read_calls.Goals as goal
use Rattle.input_line.proofs.tokens.read_calls.Goals.{then-b-eq32+then-complete, else-b-eq32+in_ok-entries, else-b-eq32-via-then-b-eq32+else-complete, else-b-eq32-via-else-b-eq32}

pub loop-b-init : goal.loop-b-init
loop-b-init c = search reading

pub returns-in_err-entries : goal.returns-in_err-entries
returns-in_err-entries c =
    rw c.from_residual.ensures
    (note-other _ _ _ _ _ c.loop-b.invariant c.loop-b-test.true
    (elim c.else-b-eq32.branch [
      | else-b-eq32-via-then-b-eq32+else-complete w ↦ λ e d. false≢true (sym w.if-complete.false ∙ d)
      | else-b-eq32-via-else-b-eq32 w ↦ λ e d. w.if-b-eq32.false e
    ]) c.in_err-entries.ensures)

pub loop-b-preserved : goal.loop-b-preserved
loop-b-preserved c = elim c.if-b-eq32.branch [
  | then-b-eq32+then-complete w ↦ rw (w.entries-is, w.n-is, w.complete-is) (note-space _ _ _ _ _ c.loop-b.invariant c.loop-b-test.true w.if-b-eq32.true w.if-complete.true)
  | else-b-eq32+in_ok-entries w ↦ rw (w.entries-is, w.n-is, w.complete-is) (note-goes _ _ _ _ _ c.loop-b.invariant c.loop-b-test.true _ w.in_ok-entries.ensures)
]

pub returns-then-complete-2 : goal.returns-then-complete-2
returns-then-complete-2 c = search reading

pub returns-else-complete-2 : goal.returns-else-complete-2
returns-else-complete-2 c = search reading
