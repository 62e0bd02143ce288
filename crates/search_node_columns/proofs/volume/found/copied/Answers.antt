use Rattle.std.proofs.Common.{◌∙◌}
use Rattle.search_node_columns.proofs.volume.PoolTrees.{day-steps}
use Rattle.search_node_columns.proofs.volume.found.copied.Goals as goal

pub add-requires-clause-steps : goal.add-requires-clause-steps
add-requires-clause-steps c =
    day-steps c.args.instance.now.grammar c.args.from.now c.args.tree c.as_slice.result.now c.requires.from c.requires.tree
    (λ x at. c.as_slice.ensures ∙ c.tree.ensures x at)
