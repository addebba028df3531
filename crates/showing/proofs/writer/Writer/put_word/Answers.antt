-- `Writer::put_word` puts the word, by the three words of its letters. Assumes nothing.
use Rattle.std.proofs.Common.{arith}
use Rattle.showing.specs.PutLaws.{word_first, word-known, word_none}
use Rattle.showing.proofs.writer.Writer.put_word.Goals as goal

pub returns-then-x-lt-KNOWN : goal.returns-then-x-lt-KNOWN
returns-then-x-lt-KNOWN c = word_first _ _ c.if-x-lt-KNOWN.true c.known.ensures c.put_bytes.ensures

pub returns-then-x-lt-WORDS : goal.returns-then-x-lt-WORDS
returns-then-x-lt-WORDS c = word-known _ _ (omega arith) c.if-x-lt-WORDS.true (rw c.word.ensures at c.put_letters.ensures) (rw c.word-then-x-lt-WORDS.ensures at c.put_letters-then-x-lt-WORDS.ensures) (rw c.word-then-x-lt-WORDS-2.ensures at c.put_letters-then-x-lt-WORDS-2.ensures)

pub returns-else-x-lt-WORDS : goal.returns-else-x-lt-WORDS
returns-else-x-lt-WORDS c = word_none _ _ (omega arith)
