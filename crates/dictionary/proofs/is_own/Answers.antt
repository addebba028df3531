-- A run of letters and digits, zeros behind it, and not the word `apply`.
use Rattle.std.proofs.Common.{◌-◌, arith}
use Rattle.dictionary.specs.WordLaws.{own-word}
use Rattle.dictionary.proofs.is_own.Goals as goal

pub returns-then-not-named : goal.returns-then-not-named
returns-then-not-named c =
    own-word c.args.t.now c.run_end-end.result c.requires c.run_end-end.ensures (12 - c.run_end-end.result) c.ends.result (omega arith) c.ends.ensures c.if-not-ends.false c.named.result c.named.ensures c.if-not-named.true c.is_word.result c.is_word.ensures
