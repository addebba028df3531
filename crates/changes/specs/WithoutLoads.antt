-- Request P2, choosing: scripts that have neither of the two operators anywhere. Assumes nothing.
use Rattle.std.specs.Prelude.{◌≡◌, Bool, false}
use Rattle.atlite.specs.Script.{SrcOp, kept, ask, resolve, Src, Srcs, SrcFields, SrcMethods, Line}
use Rattle.atlite.specs.Table.{Table}
use Rattle.changes.specs.Choosing.{is_new}
use Rattle.changes.specs.Throughout.{AnyMethods}
use Rattle.changes.specs.ThroughoutLoads.{ThroughoutSrc, ThroughoutSrcs, ThroughoutFields, ThroughoutWritten, ThroughoutLine, ThroughoutTable}

-- ---- scripts that have neither operator anywhere
unfoldable pub is_new_written : SrcOp → Bool
is_new_written (kept o) = is_new o
is_new_written (ask m) = false
is_new_written resolve = false
is_new_written SrcOp.seq = false

abbrev pub NeitherWritten : SrcOp → Type 0
NeitherWritten o = is_new_written o ≡ false

abbrev pub WithoutSrc : Src → Type 0
WithoutSrc e = ThroughoutSrc NeitherWritten AnyMethods e

abbrev pub WithoutSrcs : Srcs → Type 0
WithoutSrcs es = ThroughoutSrcs NeitherWritten AnyMethods es

abbrev pub WithoutFields : SrcFields → Type 0
WithoutFields fs = ThroughoutFields NeitherWritten AnyMethods fs

abbrev pub WithoutBodies : SrcMethods → Type 0
WithoutBodies ms = ThroughoutWritten NeitherWritten AnyMethods ms

abbrev pub WithoutLine : Line → Type 0
WithoutLine l = ThroughoutLine NeitherWritten AnyMethods l

abbrev pub WithoutTable : Table → Type 0
WithoutTable T = ThroughoutTable NeitherWritten AnyMethods T
