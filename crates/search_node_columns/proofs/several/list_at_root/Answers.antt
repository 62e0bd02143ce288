use Rattle.search_node_columns.proofs.SeveralLemmas.{stay-begun, stay-more}
use Rattle.search_node_columns.proofs.several.list_at_root.Goals as goal

pub loop-init : goal.loop-init
loop-init c = stay-begun _ _ _ _ c.requires.begun

pub loop-preserved : goal.loop-preserved
loop-preserved c = stay-more _ _ _ _ _ _ _ c.loop.invariant c.in_ok-column.ensures

pub returns-in_err-column : goal.returns-in_err-column
returns-in_err-column c = stay-more _ _ _ _ _ _ _ c.loop.invariant c.in_err-column.ensures
