use Rattle.std.proofs.Common.{◌≡◌, pos, refl, ap, ◌∙◌, to_z, of_z, rules}
use mir.Syntax.{w64}
use Rattle.search_node_columns.proofs.HeldColumns.{tree_held, there}
use Rattle.search_node_columns.proofs.trees.tree_column.Goals as goal

pub returns-clause-held : goal.returns-clause-held
returns-clause-held c = λ rows pool.
    let x = there c.args.pool.now c.args.tree c.requires.tree in
    let k : to_z w64 (of_z w64 c.from.result) ≡ c.from.result = search rules in
    tree_held c.args.task.now.day.instance.now c.args.task.now.cuts.now c.args.pool.now _ c.args.tree x.0 refl x.1 pool (λ t is. c.in_ok-places_of.ensures c.args.task.now.day.instance.now t x.0 rows x.1 is) (k ∙ c.from.ensures ∙ ap pos (c.cost.ensures x.0 x.1))
