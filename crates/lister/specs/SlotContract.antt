-- What the lister's functions promise. Assumes nothing.
use Rattle.std.specs.Prelude.{◌≡◌, List, ℕ, drop}
use Rattle.showing.specs.Put.{Put}
use Rattle.showing.specs.declared.writer.Writer.{Writer}
use Rattle.lister.specs.TextOfState.{Entry}

-- The text of s was put; the bodies of t that s leaves begin at i, the messages at j.
pub record Slotted (t : List ℕ) (s : Entry) (old new : Writer) (i j : ℕ) : Type 0 where
  pub text : Put old s.text new
  pub bodies : drop i t ≡ s.bodies
  pub waiting : drop j t ≡ s.waiting
