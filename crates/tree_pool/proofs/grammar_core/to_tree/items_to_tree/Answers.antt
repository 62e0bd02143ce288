use Rattle.std.proofs.Common.{◌≡◌, ◌∷◌, [], ◌++◌, sym, ap, ◌∙◌}
use Rattle.std.proofs.lemmas.List.{append-nil}
use Rattle.model_rosters.specs.declared.grammar.Step.{Step}
use Rattle.model_rosters.specs.declared.grammar.Sym.TheVariants.{Name}
use Rattle.model_rosters.specs.Arcs.{arcs}
use Rattle.model_rosters.specs.Grammar.{rule_at}
use Rattle.tree_pool.specs.grammar_core.Walks.{AsksTree}
use Rattle.tree_pool.proofs.grammar_core.ToItemsLemmas.{whole}
use Rattle.tree_pool.proofs.grammar_core.ToTreeLemmas.{step_of, key-asks, key-turned}
use Rattle.tree_pool.proofs.grammar_core.to_tree.items_to_tree.Goals as goal

pub add_parts-requires : goal.add_parts-requires
add_parts-requires c =
    let tree = c.requires.arcs in
    let of : c.of.result ≡ whole (step_of c.in-Some.root) = c.of.ensures ∙ ap whole c.whole_step-step.ensures in
    let rule = ap (λ (s : Step). rule_at c.args.grammar.now s.rule) (sym c.whole_step-step.ensures) ∙ c.rule_of-rule.ensures in
    let asks : AsksTree c.args.grammar.now (Name tree.is_tree.name) arcs c.new-arcs.result =
    record { sound = c.requires.sound; start = tree.start; len = tree.is_tree.len; tree = tree.tree; on = tree.is_tree.on; rest = []; is = c.new-arcs.ensures ∙ tree.arcs ∙ sym (append-nil (arcs tree.start tree.tree)) } in
    key-asks c.args.grammar.now c.requires.sound c.rule_of-rule.result.now c.in-Some.root rule tree.is_tree.name c.new-arcs.result c.in-Some.ensures.0 c.of.result of c.in-Some.ensures.1 asks

pub returns : goal.returns
returns c =
    let of : c.of.result ≡ whole (step_of c.in-Some.root) = c.of.ensures ∙ ap whole c.whole_step-step.ensures in
    let rule = ap (λ (s : Step). rule_at c.args.grammar.now s.rule) (sym c.whole_step-step.ensures) ∙ c.rule_of-rule.ensures in
    let push : c.push.new.self ≡ [] ++ step_of c.in-Some.root ∷ [] = c.in_ok-push.ensures.ok ∙ ap (λ old. old ++ c.whole_step-step.result ∷ []) c.new-tree.ensures ∙ ap (λ (s : Step). s ∷ []) c.whole_step-step.ensures in
    λ i t is e.
    (key-turned c.args.grammar.now c.requires.sound c.rule_of-rule.result.now c.in-Some.root rule is.name c.new-arcs.result c.in-Some.ensures.0 c.add_parts.new.arcs [] c.push.new.self c.add_parts.new.tree c.of.result of c.in-Some.ensures.1 push c.in_ok-add_parts.ensures
    i is.len t [] is.on (c.new-arcs.ensures ∙ e ∙ sym (append-nil (arcs i t)))).1
