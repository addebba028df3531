-- What printing promises. Assumes nothing.
use Rattle.std.specs.Prelude.{◌≡◌, false, Option, Some, None, List, ◌++◌, ℕ, ◌≤◌, length, take, drop}
use Rattle.atlite.specs.Table.{Table, IsTable, text_of}
use Rattle.layout.specs.Numbers.{table_words}
use Rattle.layout.specs.Tables.{encode_table}
use Rattle.printer.specs.Names.{names_hold}

-- Of the words t the answer is r, and the text that was old is new. The words of a table give its text, and what lies past it is
-- kept; words whose dictionary no script can have give none, and nothing is written; of other words nothing is said but that an
-- answer fits.
pub record Printed (t old new : List ℕ) (r : Option ℕ) : Type 0 where
  pub table : (T : Table) → IsTable T → take table_words t ≡ encode_table T
      → (r ≡ Some (length (text_of T))) × (new ≡ text_of T ++ drop (length (text_of T)) old)
  pub names : names_hold (take table_words t) ≡ false → (r ≡ None) × (new ≡ old)
  pub fits : (n : ℕ) → r ≡ Some n → n ≤ 4096
  pub kept : length new ≡ length old
