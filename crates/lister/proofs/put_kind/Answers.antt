-- `put_kind` puts what the kind says. Assumes nothing.
use Rattle.atlite.specs.Base.{bytes}
use Rattle.std.proofs.Common.{arith}
use Rattle.lister.specs.TextOfState.{kind_in}
use Rattle.lister.specs.SlotLaws.{kind-future}
use Rattle.lister.proofs.put_kind.Goals as goal

pub returns-in-1 : goal.returns-in-1
unfolding kind_in bytes
returns-in-1 c = rw c.in-1.is c.put_bytes.ensures

pub returns-in-2 : goal.returns-in-2
unfolding kind_in bytes
returns-in-2 c = rw c.in-2.is c.put_bytes-in-2.ensures

pub returns-in-5 : goal.returns-in-5
unfolding kind_in bytes
returns-in-5 c = rw c.in-5.is c.put_bytes-in-5.ensures

pub returns-in_default : goal.returns-in_default
unfolding bytes
returns-in_default c = kind-future (λ e. omega arith) (λ e. omega arith) (λ e. omega arith) c.put_bytes-in_default.ensures
