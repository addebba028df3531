-- `limits` meets its contract, by the laws of `ReaderCauses`. Assumes nothing.
use Rattle.script.specs.ReaderCauses.{laws}
use Rattle.script.proofs.reader.limits.Goals as goal

pub returns-then-depth-gt32 : goal.returns-then-depth-gt32
returns-then-depth-gt32 c = search laws

pub returns-then-different-gt64 : goal.returns-then-different-gt64
returns-then-different-gt64 c = search laws

pub returns-then-size-gt512 : goal.returns-then-size-gt512
returns-then-size-gt512 c = search laws

pub write_table-requires : goal.write_table-requires
write_table-requires c = search laws

pub returns : goal.returns
returns c = search laws
