-- `printer::print_words` meets its contract, by the laws of its four ways to return. Assumes nothing.
use Rattle.std.proofs.Common.{arith}
use Rattle.showing.specs.Put.{from-start}
use Rattle.printer.specs.PrintLaws.{laws, printed-long, printed-whole}
use Rattle.printer.proofs.print_words.Goals as goal

pub returns-then-not-names_hold : goal.returns-then-not-names_hold
returns-then-not-names_hold c = search laws

pub returns-then-n-gt-LINES : goal.returns-then-n-gt-LINES
returns-then-n-gt-LINES c = search laws

pub returns-then-len-gt-TEXT : goal.returns-then-len-gt-TEXT
returns-then-len-gt-TEXT c = printed-long _ _ _ c.names_hold.ensures c.if-not-names_hold.false _ _ (from-start c.new-text.ensures.bytes c.new-text.ensures.empty c.show_lines.ensures) (omega arith) (rw c.new-text.ensures.bytes at c.show_lines.ensures.kept) (omega arith)

pub returns : goal.returns
returns c = rw c.len-len.ensures (printed-whole _ _ _ c.names_hold.ensures c.if-not-names_hold.false _ _ (from-start c.new-text.ensures.bytes c.new-text.ensures.empty c.show_lines.ensures) (omega arith) (rw c.new-text.ensures.bytes at c.show_lines.ensures.kept) (omega arith))
