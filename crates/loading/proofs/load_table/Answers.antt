-- `load_table` meets its contract, by the laws of its three ways to return. Assumes nothing.
use Rattle.loading.specs.LoadLaws.{long-laws, large-laws, small-laws}
use Rattle.loading.proofs.load_table.Goals as goal

pub returns-then-o-gt-EXPR_SIZE : goal.returns-then-o-gt-EXPR_SIZE
returns-then-o-gt-EXPR_SIZE c = search long-laws

pub returns-then-nodes-gt-NODES : goal.returns-then-nodes-gt-NODES
returns-then-nodes-gt-NODES c = search large-laws

pub returns : goal.returns
returns c = search small-laws
