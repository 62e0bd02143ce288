use Rattle.std.proofs.Common.{◌≡◌, refl, subst, sym, ◌∙◌}
use Rattle.model_rosters.specs.declared.grammar.Grammar.{Grammar}
use Rattle.model_sample_days.specs.RestAndWork.{rest_and_work, block_tree, IsTreeOfBlock}
use Rattle.tree_pool.specs.grammar_core.Lists.{IsSpanTree}
use Rattle.rows_graphs.proofs.normal_forms.has_arcs_of_a_word.Goals as goal

spans : (g : Grammar) → g ≡ rest_and_work → IsTreeOfBlock → IsSpanTree g 1 block_tree
spans g e block =
    let is : IsSpanTree rest_and_work 1 block_tree = record { name = 0; len = 4; on = block.derives.derives } in
    subst (λ (h : Grammar). IsSpanTree h 1 block_tree) (sym e) is

pub tree_to_items-requires-clause-tree : goal.tree_to_items-requires-clause-tree
tree_to_items-requires-clause-tree c =
    record { start = 1; tree = block_tree; is_tree = spans c.args.grammar.now c.requires c.tree_of_a_block.ensures; steps = refl }

pub items_to_tree-back-requires-clause-arcs : goal.items_to_tree-back-requires-clause-arcs
items_to_tree-back-requires-clause-arcs c =
    let is = spans c.args.grammar.now c.requires c.tree_of_a_block.ensures in
    record { start = 1; tree = block_tree; is_tree = is; arcs = c.as_slice-2.ensures ∙ c.in_ok-arcs.ensures 1 block_tree is refl }
