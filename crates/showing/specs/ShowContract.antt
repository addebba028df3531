-- What the functions that show terms promise. Assumes nothing.
use Rattle.std.specs.Prelude.{◌≡◌, List, ℕ, drop}
use Rattle.showing.specs.Put.{Put}
use Rattle.showing.specs.TextOfWords.{Text}
use Rattle.showing.specs.declared.writer.Writer.{Writer}

-- The text of s was put; the words of t that s leaves begin at i.
pub record Showed (t : List ℕ) (s : Text) (old new : Writer) (i : ℕ) : Type 0 where
  pub text : Put old s.text new
  pub rest : drop i t ≡ s.rest
