use Rattle.search_node_columns.specs.Several.{StayPriced}
use Rattle.search_node_columns.proofs.several.list_at_root.Given as goal

abbrev pub invariant-loop : goal.invariant-loop
invariant-loop l = StayPriced l.task l.pricer l.fn.pool l.pool l.workspace
