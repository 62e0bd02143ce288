use Rattle.std.proofs.Common.{◌∙◌}
use Rattle.search_moves.proofs.PoolTrees.{day-steps}
use Rattle.search_moves.proofs.copying.copied.Goals as goal

pub add-requires-clause-steps : goal.add-requires-clause-steps
add-requires-clause-steps c =
    day-steps c.args.day.now.instance.now.grammar c.args.from.now c.args.column c.as_slice.result.now c.requires.from c.requires.column
    (λ x at. c.as_slice.ensures ∙ c.tree.ensures x at)
