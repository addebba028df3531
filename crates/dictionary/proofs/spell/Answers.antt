-- Four writes in a row.
use Rattle.dictionary.specs.WordLaws.{spell-all}
use Rattle.dictionary.proofs.spell.Goals as goal

pub returns : goal.returns
returns c = spell-all c.args.t.now c.args.w c.args.at
