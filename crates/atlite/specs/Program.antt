-- What the programs `loops` and `replay` have in common: an input is a line and a script, the script is read and loaded, and the state that is
-- left in the end is listed. Assumes nothing.
--
-- Document 01, "Listing and worked examples". A listing that is too long is refused like a text that does not fit a buffer.
use Rattle.std.specs.Prelude.{ℕ, [], ◌∷◌, ◌++◌, length, eqb, leb, if◌then◌else◌}
use Rattle.std.proofs.Math.Option.{Option, none, some}
use Rattle.atlite.specs.Base.{Result, done, refused, ◌>>=◌, ◌>>◌, require, bytes}
use Rattle.atlite.specs.Lexicon.{Bytes, newline}
use Rattle.atlite.specs.State.{State}
use Rattle.atlite.specs.Load.{load}
use Rattle.atlite.specs.Keywords.{operators}
use Rattle.atlite.specs.Table.{read}
use Rattle.atlite.specs.Listing.{listing}
use Rattle.atlite.specs.Printer.{print_number}

pub record Input : Type 0 where
  pub line : Bytes
  pub script : Bytes

unfoldable pub longer : ℕ → Option Input → Option Input
longer b none = none
longer b (some i) = some (record { line = b ∷ i.line; script = i.script })

-- the bytes in front of the first byte 10, and all that is behind it
unfoldable pub split : Bytes → Option Input
split [] = none
split (b ∷ w) = if eqb b newline then some (record { line = []; script = w }) else longer b (split w)

-- no program looks at a line that is longer
unfoldable pub short : Option Input → Option Input
short none = none
short (some i) = if leb (length i.line) 4096 then some i else none

unfoldable pub started : Bytes → Result State
started t = do
  T ← read operators t
  load T

unfoldable pub listed : State → Result Bytes
listed σ = do
  require 6 (leb (length (listing σ)) 65536)
  done (listing σ)

unfoldable pub shown : Result Bytes → Bytes
shown (done l) = l
shown (refused n) = bytes "(refused " ++ print_number n ++ bytes ")\n"

unfoldable pub Program : Unit {0}
unfolding longer split short started listed shown
Program = tt
