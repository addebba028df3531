-- What the printer's functions promise. Assumes nothing.
use Rattle.std.specs.Prelude.{◌≡◌, List, ◌++◌, ℕ, drop}
use Rattle.showing.specs.Put.{Put}
use Rattle.showing.specs.declared.writer.Writer.{Writer}
use Rattle.printer.specs.TextOfLines.{lines_in}

-- Of n lines all but the last were put, which begin at i.
pub record Lined (t : List ℕ) (n : ℕ) (old : Writer) (last : ℕ) (new : Writer) (i : ℕ) : Type 0 where
  pub so : List ℕ
  pub text : Put old so new
  pub whole : so ++ lines_in t last (drop i t) ≡ lines_in t n (drop 255 t)
