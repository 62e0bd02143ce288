use Rattle.std.proofs.Common.{arith, ◌≡◌, ◌<◌, ◌+◌, length, sym, ap, subst, ◌∙◌, ℕ, get_or}
use Rattle.std.proofs.lemmas.Result.{on_ok_weaker}
use Rattle.model_rosters.specs.declared.grammar.Sym.{Sym}
use Rattle.model_rosters.specs.declared.grammar.Sym.TheVariants.{Code, Name}
use Rattle.model_rosters.specs.declared.grammar.Step.{Step}
use Rattle.model_rosters.specs.Arcs.{arcs, parts_arcs}
use Rattle.model_rosters.specs.Grammar.{rule_at}
use Rattle.model_rosters.specs.Trees.{steps}
use Rattle.tree_pool.specs.declared.grammar_core.suffix.Suffix.{Suffix}
use Rattle.tree_pool.specs.grammar_core.Walks.{AsksTree, TurnsParts, tree_measure, arcs_measure}
use Rattle.tree_pool.proofs.grammar_core.ToItemsLemmas.{from_below, whole}
use Rattle.tree_pool.proofs.grammar_core.ToTreeLemmas.{Takes, step_of, arcs-asks_tree, arcs-asks_parts, arcs-part_within, arcs-part_fewer, arcs-fewer, arcs-turned, key-asks}
use Rattle.tree_pool.proofs.grammar_core.to_tree.+to_tree.Goals as goal

pub add_parts-add_tree-requires : goal.add_parts-add_tree-requires
add_parts-add_tree-requires t c =
    let is : get_or c.as_slice-right.result.now c.args.suffix.from (Code 0) ≡ get_or c.args.rule.now.right c.args.suffix.from (Code 0) = ap (λ r. get_or r c.args.suffix.from (Code 0)) c.as_slice-right.ensures in
    let all : length c.as_slice-right.result.now ≡ length c.args.rule.now.right = ap length c.as_slice-right.ensures in
    let lt : c.args.suffix.from < length c.args.rule.now.right = omega (arith, all, c.if-from-right.false, c.requires.within) in
    let told : Takes (length c.as_slice-right.result.now) c.args.suffix c.args.arcs.now c.take_part-part.result c.take_part-part.new.arcs = record { own = c.take_part-part.ensures.own; none = c.take_part-part.ensures.none } in
    let takes : Takes (length c.args.rule.now.right) c.args.suffix c.args.arcs.now c.take_part-part.result c.take_part-part.new.arcs =
    subst (λ (m : ℕ). Takes m c.args.suffix c.args.arcs.now c.take_part-part.result c.take_part-part.new.arcs) all told in
    let below : c.args.suffix.from < 8 = from_below c.args.grammar.now c.args.rule.now c.args.suffix (get_or c.as_slice-right.result.now c.args.suffix.from (Code 0)) lt is c.requires.sound c.requires.at in
    let fewer = arcs-part_fewer c.args.grammar.now c.args.rule.now c.args.suffix (get_or c.as_slice-right.result.now c.args.suffix.from (Code 0)) lt is c.args.arcs.now c.requires c.take_part-part.result c.take_part-part.new.arcs takes in (
      subst (λ (n : ℕ). tree_measure (length c.take_part-part.new.arcs) < n) c.decreases (omega (arith, below, fewer)),
      arcs-asks_tree c.args.grammar.now c.args.rule.now c.args.suffix (get_or c.as_slice-right.result.now c.args.suffix.from (Code 0)) lt is c.args.arcs.now c.requires c.take_part-part.result c.take_part-part.new.arcs takes,
    )

pub add_parts-after-requires-clause-from : goal.add_parts-after-requires-clause-from
add_parts-after-requires-clause-from t c =
    let is : get_or c.as_slice-right.result.now c.args.suffix.from (Code 0) ≡ get_or c.args.rule.now.right c.args.suffix.from (Code 0) = ap (λ r. get_or r c.args.suffix.from (Code 0)) c.as_slice-right.ensures in
    let all : length c.as_slice-right.result.now ≡ length c.args.rule.now.right = ap length c.as_slice-right.ensures in
    let lt : c.args.suffix.from < length c.args.rule.now.right = omega (arith, all, c.if-from-right.false, c.requires.within) in
    from_below c.args.grammar.now c.args.rule.now c.args.suffix (get_or c.as_slice-right.result.now c.args.suffix.from (Code 0)) lt is c.requires.sound c.requires.at

pub add_parts-after-requires-clause-within : goal.add_parts-after-requires-clause-within
add_parts-after-requires-clause-within t c =
    let is : get_or c.as_slice-right.result.now c.args.suffix.from (Code 0) ≡ get_or c.args.rule.now.right c.args.suffix.from (Code 0) = ap (λ r. get_or r c.args.suffix.from (Code 0)) c.as_slice-right.ensures in
    let all : length c.as_slice-right.result.now ≡ length c.args.rule.now.right = ap length c.as_slice-right.ensures in
    let lt : c.args.suffix.from < length c.args.rule.now.right = omega (arith, all, c.if-from-right.false, c.requires.within) in
    let told : Takes (length c.as_slice-right.result.now) c.args.suffix c.args.arcs.now c.take_part-part.result c.take_part-part.new.arcs = record { own = c.take_part-part.ensures.own; none = c.take_part-part.ensures.none } in
    let takes : Takes (length c.args.rule.now.right) c.args.suffix c.args.arcs.now c.take_part-part.result c.take_part-part.new.arcs =
    subst (λ (m : ℕ). Takes m c.args.suffix c.args.arcs.now c.take_part-part.result c.take_part-part.new.arcs) all told in
    arcs-part_within c.args.grammar.now c.args.rule.now c.args.suffix (get_or c.as_slice-right.result.now c.args.suffix.from (Code 0)) lt is c.args.arcs.now c.requires c.take_part-part.result c.take_part-part.new.arcs takes

pub add_parts-add_parts-requires : goal.add_parts-add_parts-requires
add_parts-add_parts-requires t c =
    let is : get_or c.as_slice-right.result.now c.args.suffix.from (Code 0) ≡ get_or c.args.rule.now.right c.args.suffix.from (Code 0) = ap (λ r. get_or r c.args.suffix.from (Code 0)) c.as_slice-right.ensures in
    let all : length c.as_slice-right.result.now ≡ length c.args.rule.now.right = ap length c.as_slice-right.ensures in
    let lt : c.args.suffix.from < length c.args.rule.now.right = omega (arith, all, c.if-from-right.false, c.requires.within) in
    let told : Takes (length c.as_slice-right.result.now) c.args.suffix c.args.arcs.now c.take_part-part.result c.take_part-part.new.arcs = record { own = c.take_part-part.ensures.own; none = c.take_part-part.ensures.none } in
    let takes : Takes (length c.args.rule.now.right) c.args.suffix c.args.arcs.now c.take_part-part.result c.take_part-part.new.arcs =
    subst (λ (m : ℕ). Takes m c.args.suffix c.args.arcs.now c.take_part-part.result c.take_part-part.new.arcs) all told in
    let below : c.args.suffix.from < 8 = from_below c.args.grammar.now c.args.rule.now c.args.suffix (get_or c.as_slice-right.result.now c.args.suffix.from (Code 0)) lt is c.requires.sound c.requires.at in
    let from : c.after.result.from ≡ c.args.suffix.from + 1 = ap (λ (x : Suffix). x.from) c.after.ensures in
    let taken = arcs-part_fewer c.args.grammar.now c.args.rule.now c.args.suffix (get_or c.as_slice-right.result.now c.args.suffix.from (Code 0)) lt is c.args.arcs.now c.requires c.take_part-part.result c.take_part-part.new.arcs takes in
    let fewer = arcs-fewer c.args.grammar.now c.args.rule.now c.args.suffix (get_or c.as_slice-right.result.now c.args.suffix.from (Code 0)) lt is c.args.arcs.now c.requires c.take_part-part.result c.take_part-part.new.arcs takes steps c.args.tree.now c.add_tree.new.tree c.add_tree.new.arcs c.in_ok-add_tree.ensures in (
      subst (λ (n : ℕ). arcs_measure (length c.add_tree.new.arcs) c.after.result.from < n) c.decreases (omega (arith, below, from, fewer, taken)),
      arcs-asks_parts c.args.grammar.now c.args.rule.now c.args.suffix (get_or c.as_slice-right.result.now c.args.suffix.from (Code 0)) lt is c.args.arcs.now c.requires c.take_part-part.result c.take_part-part.new.arcs takes steps c.args.tree.now c.add_tree.new.tree c.add_tree.new.arcs c.after.result c.after.ensures c.in_ok-add_tree.ensures,
    )

pub add_parts-returns : goal.add_parts-returns
add_parts-returns t c =
    let is : get_or c.as_slice-right.result.now c.args.suffix.from (Code 0) ≡ get_or c.args.rule.now.right c.args.suffix.from (Code 0) = ap (λ r. get_or r c.args.suffix.from (Code 0)) c.as_slice-right.ensures in
    let all : length c.as_slice-right.result.now ≡ length c.args.rule.now.right = ap length c.as_slice-right.ensures in
    let lt : c.args.suffix.from < length c.args.rule.now.right = omega (arith, all, c.if-from-right.false, c.requires.within) in
    let told : Takes (length c.as_slice-right.result.now) c.args.suffix c.args.arcs.now c.take_part-part.result c.take_part-part.new.arcs = record { own = c.take_part-part.ensures.own; none = c.take_part-part.ensures.none } in
    let takes : Takes (length c.args.rule.now.right) c.args.suffix c.args.arcs.now c.take_part-part.result c.take_part-part.new.arcs =
    subst (λ (m : ℕ). Takes m c.args.suffix c.args.arcs.now c.take_part-part.result c.take_part-part.new.arcs) all told in
    on_ok_weaker
    {P = TurnsParts c.args.grammar.now c.args.rule.now c.after.result (parts_arcs c.after.result.rule c.after.result.from c.after.result.start) (steps c.after.result.start) c.add_tree.new.arcs c.add_tree.new.tree c.add_parts.new.arcs c.add_parts.new.tree}
    {Q = TurnsParts c.args.grammar.now c.args.rule.now c.args.suffix (parts_arcs c.args.suffix.rule c.args.suffix.from c.args.suffix.start) (steps c.args.suffix.start) c.args.arcs.now c.args.tree.now c.add_parts.new.arcs c.add_parts.new.tree}
    c.add_parts.result (λ turns. λ part rest on e. arcs-turned c.args.grammar.now c.args.rule.now c.args.suffix (get_or c.as_slice-right.result.now c.args.suffix.from (Code 0)) lt is part on rest c.args.arcs.now e c.take_part-part.result c.take_part-part.new.arcs takes c.after.result c.args.tree.now c.add_tree.new.tree c.add_parts.new.tree c.add_tree.new.arcs c.add_parts.new.arcs c.after.ensures c.in_ok-add_tree.ensures turns) c.add_parts.ensures

pub add_tree-add_parts-requires : goal.add_tree-add_parts-requires
add_tree-add_parts-requires t c =
    let asks : AsksTree c.args.grammar.now (Name c.in-Name.field-0) arcs c.args.arcs.now = subst (λ (s : Sym). AsksTree c.args.grammar.now s arcs c.args.arcs.now) c.in-Name.is c.requires in
    let of : c.of.result ≡ whole (step_of c.in-Some.first) = c.of.ensures ∙ ap whole c.whole_step-step.ensures in
    let from : c.of.result.from ≡ 0 = ap (λ (x : Suffix). x.from) c.of.ensures in
    let rule = ap (λ (s : Step). rule_at c.args.grammar.now s.rule) (sym c.whole_step-step.ensures) ∙ c.rule_of-rule.ensures in (
      subst (λ (n : ℕ). arcs_measure (length c.args.arcs.now) c.of.result.from < n) c.decreases (omega (arith, from)),
      key-asks c.args.grammar.now c.requires.sound c.rule_of-rule.result.now c.in-Some.first rule c.in-Name.field-0 c.args.arcs.now c.in-Some.ensures.0 c.of.result of c.in-Some.ensures.1 asks,
    )
