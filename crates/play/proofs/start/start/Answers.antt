-- `start` meets its contract. Assumes nothing.
use Rattle.std.proofs.Common.{arith}
use Rattle.play.specs.Starts.{laws, text-started}
use Rattle.play.proofs.start.start.Goals as goal

pub returns-in_err-read : goal.returns-in_err-read
returns-in_err-read c = search laws

pub returns : goal.returns
returns c = text-started _ _ _ _ _ _ _ c.load.ensures.0 c.load.ensures.1 c.read.ensures.0 c.read.ensures.1 _ c.in_ok-read.was (omega arith) c.requires
