-- `Writer::put_leaf` puts what the kind says. Assumes nothing.
use Rattle.std.proofs.Common.{arith}
use Rattle.showing.specs.HeadLaws.{leaf-null, leaf-number, leaf-ref, leaf-word}
use Rattle.showing.proofs.writer.Writer.put_leaf.Goals as goal

pub returns-in-1 : goal.returns-in-1
returns-in-1 c = leaf-null _ _ c.in-1.is c.put_keyword.ensures

pub returns-in-2 : goal.returns-in-2
returns-in-2 c = leaf-number _ _ c.in-2.is c.put_number.ensures

pub returns-in-3 : goal.returns-in-3
returns-in-3 c = leaf-ref _ _ c.in-3.is c.put_ref.ensures

pub returns-in_default : goal.returns-in_default
returns-in_default c = leaf-word _ _ (λ e. omega arith) (λ e. omega arith) (λ e. omega arith) c.put_word.ensures
