use Rattle.std.proofs.Common.{ℕ, ◌≡◌, ◌+◌, ◌≤◌, length, arith, subst}
use Rattle.model_rosters.proofs.tree_laws.Rules.{sound-rule}
use Rattle.tree_pool.specs.grammar_core.Items.{item_count}
use Rattle.tree_pool.specs.grammar_core.Adding.{AddsItems, ItemsOfFirst}
use Rattle.tree_pool.proofs.grammar_core.ItemsLemmas.{rules-init, rules-next, all-rules}
use Rattle.tree_pool.proofs.grammar_core.items.items_of.Goals as goal

pub loop-index-init : goal.loop-index-init
loop-index-init c = rw c.new-items.ensures (rules-init c.args.grammar.now)

pub loop-index-preserved : goal.loop-index-preserved
loop-index-preserved c =
    let eight : length c.rule_of-rule.result.now.right ≤ 8 = (sound-rule c.args.grammar.now c.requires (c.loop-index.index + 1) c.rule_of-rule.result.now c.rule_of-rule.ensures).eight in
    let adds : AddsItems (c.loop-index.index + 1) c.rule_of-rule.result.now.right (item_count (length c.rule_of-rule.result.now.right)) c.loop-index.items c.add_items.new.items = rw (← c.as_slice.ensures) c.in_ok-add_items.ensures in
    rules-next c.args.grammar.now c.loop-index.index c.loop-index.items c.add_items.new.items c.rule_of-rule.result.now c.rule_of-rule.ensures eight c.loop-index.invariant adds

pub returns : goal.returns
returns c =
    let same : c.loop-index.index ≡ length c.args.grammar.now.rules = omega arith in
    all-rules c.args.grammar.now c.loop-index.items (subst (λ (n : ℕ). ItemsOfFirst c.args.grammar.now n c.loop-index.items) same c.loop-index.invariant)
