-- Where the lines of a script stand: in the first words of the scratch form, all of which are theirs. Assumes nothing.
use Rattle.std.specs.Prelude.{ℕ, ◌≤◌, ◌≡◌, List, length, take}
use Rattle.std.proofs.Common.{ap, arith, length-take}
use Rattle.atlite.specs.Script.{Line}
use Rattle.words.specs.Wide.{wide_lines}

pub record Stands (s : List ℕ) (words lines : ℕ) (ls : List Line) : Type 0 where
  pub here : take words s ≡ wide_lines ls
  pub used : words ≡ length (wide_lines ls)
  pub count : lines ≡ length ls

pub within : (s : List ℕ) (words lines : ℕ) (ls : List Line) → Stands s words lines ls → words ≤ length s
within s words lines ls h = omega (arith, ap length h.here, length-take words s, h.used)

-- of words that are long enough the second follows from the first
pub stands-in : (s : List ℕ) (words lines : ℕ) (ls : List Line) → words ≤ length s → take words s ≡ wide_lines ls → lines ≡ length ls → Stands s words lines ls
stands-in s words lines ls l h c = record { here = h; used = omega (arith, ap length h, length-take words s); count = c }
