-- The number that document 01's table has for each cause of the code. Assumes nothing.
use Rattle.std.specs.Prelude.{ℕ}
use Rattle.atlite.specs.declared.Cause.{Cause}
use Rattle.atlite.specs.declared.Cause.TheVariants as C

abbrev pub number : Cause → ℕ
number C.TextLength = 1
number C.Grammar = 2
number C.Unbound = 3
number C.Repeated = 4
number C.Oversized = 5
number C.ShortBuffer = 6
number C.Malformed = 7
number C.NoActor = 8
number C.Idle = 9
number C.NoReference = 10
number C.Foreign = 11
number C.Missing = 12
number C.Resolved = 13
number C.ResolvedWithFuture = 14
number C.NotNumber = 15
number C.Limit = 16
