use Rattle.loading.specs.Start.{write_laws}
use Rattle.loading.proofs.start.write_state.Goals as goal

pub returns : goal.returns
returns c = search write_laws
