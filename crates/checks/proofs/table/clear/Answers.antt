-- The part is filled with zeros.
use Rattle.checks.specs.TableWriteLaws.{cleared}
use Rattle.checks.proofs.table.clear.Goals as goal

pub returns : goal.returns
returns c = cleared c.args.table.now c.args.from c.args.to c.fill.new.self c.requires.0 c.requires.1 (c.fill.ensures.after (λ y h. h))
