-- `load_lent` meets its contract: a law for each way to return. Assumes nothing.
use Rattle.engine.specs.LoadContract.{laws}
use Rattle.engine.proofs.tables.load_lent.Goals as goal

pub returns-then-table-lt-TABLE : goal.returns-then-table-lt-TABLE
returns-then-table-lt-TABLE c = search laws

pub returns-then-state-lt-STATE : goal.returns-then-state-lt-STATE
returns-then-state-lt-STATE c = search laws

pub returns-then-not-is_table : goal.returns-then-not-is_table
returns-then-not-is_table c = search laws

pub returns-then-not-load_words : goal.returns-then-not-load_words
returns-then-not-load_words c = search laws

pub returns : goal.returns
returns c = search laws
