-- `show_line` puts its parts in a row. Assumes nothing.
use Rattle.atlite.specs.Base.{bytes}
use Rattle.lister.specs.ActorLaws.{line-whole}
use Rattle.lister.proofs.show_line.Goals as goal

pub returns : goal.returns
unfolding bytes
returns c = line-whole _ _ _ c.put_bytes.ensures (rw c.from.ensures at c.put_spaced.ensures) c.put_spaced-2.ensures c.put_spaced-3.ensures c.put_spaced-4.ensures c.put.ensures c.show.ensures c.put_bytes-2.ensures
