-- One more byte before those that are taken. Assumes nothing.
use Rattle.std.proofs.Common.{◌<◌, ◌-◌, arith}
use Rattle.scan.specs.WordNumberLaws.{laws}
use Rattle.scan.proofs.codes.number.Goals as goal

pub loop-i-preserved : goal.loop-i-preserved
loop-i-preserved c =
    let f = (c.type_inv.bytes (c.loop-i.i - 1)).fits in
    let l : c.from.result < 256 = omega (arith, f) in
    search laws
