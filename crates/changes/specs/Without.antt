-- Request P2, choosing: terms that have neither of the two operators anywhere. Assumes nothing.
use Rattle.std.specs.Prelude.{◌≡◌, false}
use Rattle.atlite.specs.Term.{Name, Op, Term}
use Rattle.changes.specs.Choosing.{is_new}
use Rattle.changes.specs.Throughout.{AnyMethods, Throughout}

-- an operator that is neither
abbrev pub Neither : Op Name → Type 0
Neither o = is_new o ≡ false

-- neither operator stands in it, however deep
abbrev pub Without : Term → Type 0
Without e = Throughout Neither AnyMethods e
