use Rattle.std.proofs.Common.{◌≡◌, ◌+◌, ◌-◌, ◌≤◌, ◌∷◌, [], ◌++◌, length, ap, ◌∙◌}
use Rattle.model_rosters.proofs.tree_laws.Rules.{sound-rule}
use Rattle.tree_span_cells.specs.Building.{AddsSuffixes}
use Rattle.tree_span_cells.proofs.SuffixSlotsLemmas.{rules-next}
use Rattle.tree_span_cells.proofs.build.add_rules.Goals as goal

pub loop-index-preserved : goal.loop-index-preserved
loop-index-preserved c =
    let eight : length c.rule_of-rule.result.now.right ≤ 8 = (sound-rule c.args.grammar.now c.requires.sound (c.loop-index.index + 1) c.rule_of-rule.result.now c.rule_of-rule.ensures).eight in
    let starts : c.push.new.self ≡ c.loop-index.starts ++ length c.loop-index.slots ∷ [] = c.in_ok-push.ensures.ok ∙ ap (λ n. c.loop-index.starts ++ n ∷ []) c.len.ensures in
    let adds : AddsSuffixes (c.loop-index.index + 1) (length c.rule_of-rule.result.now.right - 2) c.loop-index.slots c.add_suffixes.new.slots = rw (← c.len-in-loop-index.ensures) c.in_ok-add_suffixes.ensures in
    rw starts
    (rules-next c.args.grammar.now c.loop-index.slots c.add_suffixes.new.slots c.loop-index.starts c.loop-index.index c.rule_of-rule.result.now c.rule_of-rule.ensures eight c.loop-index.invariant adds)
