use Rattle.std.proofs.Common.{◌≡◌, ◌∷◌, [], sym, subst, ◌∙◌, List}
use Rattle.std.proofs.lemmas.List.{append-nil}
use Rattle.model_rosters.specs.declared.grammar.ArcKey.{ArcKey}
use Rattle.model_rosters.specs.declared.grammar.Sym.TheVariants.{Name}
use Rattle.model_rosters.specs.Arcs.{parts_arcs}
use Rattle.model_rosters.specs.Trees.{steps}
use Rattle.tree_pool.specs.grammar_core.Walks.{AsksTree, TurnsParts}
use Rattle.tree_pool.proofs.grammar_core.ToItemsLemmas.{use-asks, use-turned}
use Rattle.tree_pool.proofs.grammar_core.to_items.tree_to_items.Goals as goal

pub add_parts-requires : goal.add_parts-requires
add_parts-requires c =
    let first : c.args.tree.now ≡ c.in-Some.root ∷ c.next.new.self = sym c.new-steps.ensures ∙ c.in-Some.ensures in
    let tree = c.requires.tree in
    let asks : AsksTree c.args.grammar.now (Name tree.is_tree.name) steps c.args.tree.now =
    record { sound = c.requires.sound; start = tree.start; len = tree.is_tree.len; tree = tree.tree; on = tree.is_tree.on; rest = []; is = tree.steps ∙ sym (append-nil (steps tree.start tree.tree)) } in
    use-asks c.args.grammar.now c.requires.sound c.rule_of-rule.result.now c.in-Some.root c.rule_of-rule.ensures tree.is_tree.name c.args.tree.now c.next.new.self c.of.result c.of.ensures first asks

pub returns : goal.returns
returns c =
    let first : c.args.tree.now ≡ c.in-Some.root ∷ c.next.new.self = sym c.new-steps.ensures ∙ c.in-Some.ensures in
    let turns : TurnsParts c.args.grammar.now c.rule_of-rule.result.now c.of.result (steps c.of.result.start) (parts_arcs c.of.result.rule c.of.result.from c.of.result.start) c.next.new.self [] c.add_parts.new.steps c.add_parts.new.arcs =
    subst (λ (old : List ArcKey). TurnsParts c.args.grammar.now c.rule_of-rule.result.now c.of.result (steps c.of.result.start) (parts_arcs c.of.result.rule c.of.result.from c.of.result.start) c.next.new.self old c.add_parts.new.steps c.add_parts.new.arcs) c.new-arcs.ensures c.in_ok-add_parts.ensures in
    λ i t is e.
    (use-turned c.args.grammar.now c.requires.sound c.rule_of-rule.result.now c.in-Some.root c.rule_of-rule.ensures is.name c.args.tree.now c.next.new.self c.add_parts.new.steps [] c.add_parts.new.arcs c.of.result c.of.ensures first turns
    i is.len t [] is.on (e ∙ sym (append-nil (steps i t)))).1
