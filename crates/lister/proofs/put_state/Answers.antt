-- `put_state` puts what the kind says. Assumes nothing.
use Rattle.atlite.specs.Base.{bytes}
use Rattle.std.proofs.Common.{arith}
use Rattle.showing.specs.Put.{then}
use Rattle.lister.specs.TextOfState.{state_in, spaced_in}
use Rattle.lister.specs.SlotLaws.{state-none}
use Rattle.lister.proofs.put_state.Goals as goal

pub returns-in-3 : goal.returns-in-3
unfolding state_in bytes
returns-in-3 c = rw c.in-3.is c.put_bytes.ensures

pub returns-in-4 : goal.returns-in-4
unfolding state_in
returns-in-4 c = rw c.in-4.is (then c.put.ensures c.put_leaf.ensures)

pub returns-in-5 : goal.returns-in-5
unfolding state_in spaced_in
returns-in-5 c = rw c.in-5.is c.put_spaced.ensures

pub returns-in_default : goal.returns-in_default
returns-in_default c = state-none _ _ (λ e. omega arith) (λ e. omega arith) (λ e. omega arith)
