use Rattle.std.proofs.Common.{arith, ◌≡◌, ◌<◌, ◌+◌, ◌-◌, length, get_or}
use Rattle.std.proofs.lemmas.List.{get_or_read}
use Rattle.model_rosters.proofs.tree_laws.Rules.{sound-rule}
use Rattle.tree_span_cells.proofs.ChainsLemmas.{chained-front}
use Rattle.tree_span_cells.proofs.chains.Chains.new.Goals as goal

pub loop-index-preserved : goal.loop-index-preserved
loop-index-preserved c =
    let rule = c.rule_of.result.now in
    let first = c.loop-index.first.items in
    let i = c.loop-index.index in
    let left = (sound-rule c.args.grammar.now c.requires (i - 1 + 1) rule c.rule_of.ensures).left in
    let within : c.rule_of.result.now.left < length c.loop-index.first.items = omega (arith, left, c.loop-index.invariant.names) in
    let read : c.index.result.now ≡ get_or c.loop-index.first.items c.rule_of.result.now.left 0 = get_or_read first _ _ within c.index.ensures 0 in
    rw read (chained-front c.args.grammar.now c.requires first c.loop-index.next.items i rule (omega arith) c.rule_of.ensures c.loop-index.invariant)
