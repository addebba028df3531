-- The word is one of those that are held, or a new one. Assumes nothing.
use Rattle.std.proofs.Common.{arith}
use Rattle.scan.specs.DictionaryLaws.{note-known, note-new}
use Rattle.scan.proofs.vocabulary.Vocabulary.add.Goals as goal

pub returns-then-is_none : goal.returns-then-is_none
returns-then-is_none c =
    note-new _ _ _ _ _ _ _ c.requires.1 c.requires.2 c.low_part-low.ensures c.high_part-high.ensures _ _ c.place.ensures c.is_none.ensures c.if-is_none.true (omega arith) (omega arith)

pub returns-else-is_none : goal.returns-else-is_none
returns-else-is_none c =
    note-known _ _ _ _ _ _ _ c.requires.1 c.requires.2 c.low_part-low.ensures c.high_part-high.ensures _ _ c.place.ensures c.is_none.ensures c.if-is_none.false
