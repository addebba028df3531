-- `Writer::put_letters` meets its contract: the letters gone through were put. Assumes nothing.
use Rattle.std.specs.Prelude.{take}
use Rattle.showing.specs.Put.{Put}
use Rattle.showing.specs.PutLaws.{letters}
use Rattle.showing.proofs.writer.Writer.put_letters.Given as goal

abbrev pub invariant-loop-b : goal.invariant-loop-b
invariant-loop-b l = Put l.initial.self (letters (take l.b-index l.b-items)) l.self
