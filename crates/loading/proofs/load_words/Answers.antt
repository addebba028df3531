-- `load_words` meets its contract: the table stands in the first 1,280 words. Assumes nothing.
use Rattle.loading.specs.LoadLaws.{published-laws}
use Rattle.loading.proofs.load_words.Goals as goal

pub load_table-requires : goal.load_table-requires
load_table-requires c = search published-laws

pub returns : goal.returns
returns c = search published-laws
