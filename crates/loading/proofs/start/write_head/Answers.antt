use Rattle.std.proofs.Common.{refl}
use Rattle.loading.specs.Start.{head-written}
use Rattle.loading.proofs.start.write_head.Goals as goal

pub returns : goal.returns
returns c = head-written _ _ _ _ _ _ c.requires.0 refl refl c.put_words.ensures c.clear.ensures
