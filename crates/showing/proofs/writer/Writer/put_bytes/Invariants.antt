-- `Writer::put_bytes` meets its contract: the bytes gone through were put. Assumes nothing.
use Rattle.std.specs.Prelude.{take}
use Rattle.showing.specs.Put.{Put}
use Rattle.showing.proofs.writer.Writer.put_bytes.Given as goal

abbrev pub invariant-loop-b : goal.invariant-loop-b
invariant-loop-b l = Put l.initial.self (take l.b-index l.s) l.self
