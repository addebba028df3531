-- `Writer::put_tagged` puts what the tag says. Assumes nothing.
use Rattle.atlite.specs.Base.{bytes}
use Rattle.std.proofs.Common.{arith}
use Rattle.showing.specs.PutLaws.{tagged-plain, tagged-two, tagged-resolve, tagged-register}
use Rattle.showing.proofs.writer.Writer.put_tagged.Goals as goal

pub returns-in-0 : goal.returns-in-0
unfolding bytes
returns-in-0 c = tagged-plain _ _ c.in-0.is c.put_word.ensures

pub returns-in-1 : goal.returns-in-1
unfolding bytes
returns-in-1 c = tagged-two _ _ c.in-1.is c.put_word-in-1.ensures c.put_bytes.ensures

pub returns-in-2 : goal.returns-in-2
unfolding bytes
returns-in-2 c = tagged-resolve _ _ c.in-2.is c.put_bytes-in-2.ensures

pub returns-in_default : goal.returns-in_default
unfolding bytes
returns-in_default c = tagged-register _ _ (λ e. omega arith) (λ e. omega arith) (λ e. omega arith) c.put_bytes-in_default.ensures
