use Rattle.std.proofs.Common.{arith, ◌≡◌, ◌<◌, ◌+◌, length, ap, subst, ℕ, get_or, ◌++◌}
use Rattle.std.proofs.lemmas.Result.{on_ok_weaker}
use Rattle.model_rosters.specs.declared.grammar.ArcKey.{ArcKey}
use Rattle.model_rosters.specs.declared.grammar.Sym.{Sym}
use Rattle.model_rosters.specs.declared.grammar.Sym.TheVariants.{Code, Name}
use Rattle.model_rosters.specs.Arcs.{arcs, parts_arcs}
use Rattle.model_rosters.specs.Trees.{steps}
use Rattle.model_rosters.specs.tree_laws.Laws.{arc_at}
use Rattle.tree_pool.specs.declared.grammar_core.suffix.Suffix.{Suffix}
use Rattle.tree_pool.specs.grammar_core.Walks.{AsksTree, TurnsParts, next_len, own_arcs, tree_measure, steps_measure}
use Rattle.tree_pool.proofs.grammar_core.ToItemsLemmas.{steps-asks_tree, steps-asks_parts, steps-part_within, from_below, steps-fewer, steps-turned, use-asks, after}
use Rattle.tree_pool.proofs.grammar_core.to_items.+to_items.Goals as goal

pub add_parts-add_tree-requires : goal.add_parts-add_tree-requires
add_parts-add_tree-requires t c =
    let is : get_or c.as_slice-right.result.now c.args.suffix.from (Code 0) ≡ get_or c.args.rule.now.right c.args.suffix.from (Code 0) = ap (λ r. get_or r c.args.suffix.from (Code 0)) c.as_slice-right.ensures in
    let all : length c.as_slice-right.result.now ≡ length c.args.rule.now.right = ap length c.as_slice-right.ensures in
    let lt : c.args.suffix.from < length c.args.rule.now.right = omega (arith, all, c.if-from-right.false, c.requires.within) in
    let below : c.args.suffix.from < 8 = from_below c.args.grammar.now c.args.rule.now c.args.suffix (get_or c.as_slice-right.result.now c.args.suffix.from (Code 0)) lt is c.requires.sound c.requires.at in
    (subst (λ (n : ℕ). tree_measure (length c.args.steps.now) < n) c.decreases (omega (arith, below)), steps-asks_tree c.args.grammar.now c.args.rule.now c.args.suffix (get_or c.as_slice-right.result.now c.args.suffix.from (Code 0)) lt is c.args.steps.now c.requires)

pub add_parts-after-requires-clause-from : goal.add_parts-after-requires-clause-from
add_parts-after-requires-clause-from t c =
    let is : get_or c.as_slice-right.result.now c.args.suffix.from (Code 0) ≡ get_or c.args.rule.now.right c.args.suffix.from (Code 0) = ap (λ r. get_or r c.args.suffix.from (Code 0)) c.as_slice-right.ensures in
    let all : length c.as_slice-right.result.now ≡ length c.args.rule.now.right = ap length c.as_slice-right.ensures in
    let lt : c.args.suffix.from < length c.args.rule.now.right = omega (arith, all, c.if-from-right.false, c.requires.within) in
    from_below c.args.grammar.now c.args.rule.now c.args.suffix (get_or c.as_slice-right.result.now c.args.suffix.from (Code 0)) lt is c.requires.sound c.requires.at

pub add_parts-after-requires-clause-within : goal.add_parts-after-requires-clause-within
add_parts-after-requires-clause-within t c =
    let is : get_or c.as_slice-right.result.now c.args.suffix.from (Code 0) ≡ get_or c.args.rule.now.right c.args.suffix.from (Code 0) = ap (λ r. get_or r c.args.suffix.from (Code 0)) c.as_slice-right.ensures in
    let all : length c.as_slice-right.result.now ≡ length c.args.rule.now.right = ap length c.as_slice-right.ensures in
    let lt : c.args.suffix.from < length c.args.rule.now.right = omega (arith, all, c.if-from-right.false, c.requires.within) in
    rw c.next_len-part.ensures (steps-part_within c.args.grammar.now c.args.rule.now c.args.suffix (get_or c.as_slice-right.result.now c.args.suffix.from (Code 0)) lt is c.args.steps.now c.requires)

pub add_parts-add_parts-requires : goal.add_parts-add_parts-requires
add_parts-add_parts-requires t c =
    let is : get_or c.as_slice-right.result.now c.args.suffix.from (Code 0) ≡ get_or c.args.rule.now.right c.args.suffix.from (Code 0) = ap (λ r. get_or r c.args.suffix.from (Code 0)) c.as_slice-right.ensures in
    let all : length c.as_slice-right.result.now ≡ length c.args.rule.now.right = ap length c.as_slice-right.ensures in
    let lt : c.args.suffix.from < length c.args.rule.now.right = omega (arith, all, c.if-from-right.false, c.requires.within) in
    let below : c.args.suffix.from < 8 = from_below c.args.grammar.now c.args.rule.now c.args.suffix (get_or c.as_slice-right.result.now c.args.suffix.from (Code 0)) lt is c.requires.sound c.requires.at in
    let next : c.after.result ≡ after c.args.suffix (next_len (get_or c.as_slice-right.result.now c.args.suffix.from (Code 0)) c.args.steps.now) = rw (← c.next_len-part.ensures) c.after.ensures in
    let from : c.after.result.from ≡ c.args.suffix.from + 1 = ap (λ (x : Suffix). x.from) next in
    let fewer = steps-fewer c.args.grammar.now c.args.rule.now c.args.suffix (get_or c.as_slice-right.result.now c.args.suffix.from (Code 0)) lt is c.args.steps.now c.requires arcs c.add_arc.new.arcs c.add_tree.new.arcs c.add_tree.new.steps c.in_ok-add_tree.ensures in (
      subst (λ (n : ℕ). steps_measure (length c.add_tree.new.steps) c.after.result.from < n) c.decreases (omega (arith, below, from, fewer)),
      steps-asks_parts c.args.grammar.now c.args.rule.now c.args.suffix (get_or c.as_slice-right.result.now c.args.suffix.from (Code 0)) lt is c.args.steps.now c.requires arcs c.add_arc.new.arcs c.add_tree.new.arcs c.add_tree.new.steps c.after.result next c.in_ok-add_tree.ensures,
    )

pub add_parts-returns : goal.add_parts-returns
add_parts-returns t c =
    let is : get_or c.as_slice-right.result.now c.args.suffix.from (Code 0) ≡ get_or c.args.rule.now.right c.args.suffix.from (Code 0) = ap (λ r. get_or r c.args.suffix.from (Code 0)) c.as_slice-right.ensures in
    let all : length c.as_slice-right.result.now ≡ length c.args.rule.now.right = ap length c.as_slice-right.ensures in
    let lt : c.args.suffix.from < length c.args.rule.now.right = omega (arith, all, c.if-from-right.false, c.requires.within) in
    let next : c.after.result ≡ after c.args.suffix (next_len (get_or c.as_slice-right.result.now c.args.suffix.from (Code 0)) c.args.steps.now) = rw (← c.next_len-part.ensures) c.after.ensures in
    let own : c.add_arc.new.arcs ≡ c.args.arcs.now ++ own_arcs (length c.args.rule.now.right) (arc_at c.args.suffix.rule c.args.suffix.from c.args.suffix.start c.args.suffix.len (next_len (get_or c.as_slice-right.result.now c.args.suffix.from (Code 0)) c.args.steps.now)) = rw (← c.next_len-part.ensures, ← c.as_slice-right.ensures)
    (subst (λ (a : ArcKey). c.add_arc.new.arcs ≡ c.args.arcs.now ++ own_arcs (length c.as_slice-right.result.now) a) c.arc.ensures c.in_ok-add_arc.ensures) in
    on_ok_weaker
    {P = TurnsParts c.args.grammar.now c.args.rule.now c.after.result (steps c.after.result.start) (parts_arcs c.after.result.rule c.after.result.from c.after.result.start) c.add_tree.new.steps c.add_tree.new.arcs c.add_parts.new.steps c.add_parts.new.arcs}
    {Q = TurnsParts c.args.grammar.now c.args.rule.now c.args.suffix (steps c.args.suffix.start) (parts_arcs c.args.suffix.rule c.args.suffix.from c.args.suffix.start) c.args.steps.now c.args.arcs.now c.add_parts.new.steps c.add_parts.new.arcs}
    c.add_parts.result (λ turns. λ part rest on e. steps-turned c.args.grammar.now c.args.rule.now c.args.suffix (get_or c.as_slice-right.result.now c.args.suffix.from (Code 0)) lt is part on rest c.args.steps.now e c.after.result c.args.arcs.now c.add_arc.new.arcs c.add_tree.new.arcs c.add_parts.new.arcs c.add_tree.new.steps c.add_parts.new.steps next own c.in_ok-add_tree.ensures turns) c.add_parts.ensures

pub add_tree-add_parts-requires : goal.add_tree-add_parts-requires
add_tree-add_parts-requires t c =
    let asks : AsksTree c.args.grammar.now (Name c.in-Name.field-0) steps c.args.steps.now = subst (λ (s : Sym). AsksTree c.args.grammar.now s steps c.args.steps.now) c.in-Name.is c.requires in
    let from : c.of.result.from ≡ 0 = ap (λ (x : Suffix). x.from) c.of.ensures in
    let count = ap length c.in-Some.ensures in (
      subst (λ (n : ℕ). steps_measure (length c.next.new.self) c.of.result.from < n) c.decreases (omega (arith, from, count)),
      use-asks c.args.grammar.now asks.sound c.rule_of-rule.result.now c.in-Some.step c.rule_of-rule.ensures c.in-Name.field-0 c.args.steps.now c.next.new.self c.of.result c.of.ensures c.in-Some.ensures asks,
    )
