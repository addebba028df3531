-- What no operator begins is refused. Assumes nothing.
use Rattle.std.proofs.Common.{ap, arith, rules}
use Rattle.decoding.specs.Kinds.{row_in}
use Rattle.parse.specs.FormLaws.{form-rest}
use Rattle.parse.proofs.forms.+expressions.Goals as goal

pub form-returns-in_default : goal.form-returns-in_default
form-returns-in_default t c =
    let h = ap (λ k. (row_in k).operator) c.from-row.ensures in
    form-rest _ _ _ _ _ _ (λ e. omega arith) (λ e. omega arith) (search rules)
