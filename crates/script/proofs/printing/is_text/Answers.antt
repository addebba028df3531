-- `is_text` meets its contract, by what reading the bytes gives. Assumes nothing.
use Rattle.script.specs.Reprinting.{read_back, read-refused}
use Rattle.std.proofs.Common.{arith}
use Rattle.script.proofs.printing.is_text.Goals as goal

pub returns-in-Ok : goal.returns-in-Ok
returns-in-Ok c = read_back c.args.table.now c.args.front.now _ c.read_text.new.table (omega arith) _ c.in-Ok.ensures (omega (arith, c.read_text.auto.table)) c.eq.result c.eq.ensures

pub returns-in-Err : goal.returns-in-Err
returns-in-Err c = read-refused c.args.table.now c.args.front.now _ c.read_text.new.table (omega arith) _ c.in-Err.ensures
