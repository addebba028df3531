-- The run ends where the first other byte stands, or with the text. Assumes nothing.
use Rattle.scan.specs.RunLaws.{run-stop, run-last}
use Rattle.scan.proofs.bytes.run_end.Goals as goal

pub returns-in-Some : goal.returns-in-Some
returns-in-Some c = run-stop _ _ c.requires _ c.in-Some.ensures

pub returns-in-None : goal.returns-in-None
returns-in-None c = run-last _ _ c.requires c.in-None.ensures
