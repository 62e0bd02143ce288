use Rattle.std.proofs.Common.{◌≡◌, ℕ, ◌<◌, false, true, Option, Some, length, arith, refl, subst, ◌∙◌}
use Rattle.std.specs.Prelude.{nat_eq}
use Rattle.std.specs.Option.{option_eq}
use Rattle.std.proofs.lemmas.Bool.{eq-eqb}
use Rattle.search_arc_counts.proofs.roster_split.EvensLemmas.{makers-within, makers-few, users-within, users-few, uneven, even-next, even-sums}
use Rattle.search_arc_counts.proofs.roster_split.balance.check_balance.Goals as goal

pub sum_at-made-requires-clause-within : goal.sum_at-made-requires-clause-within
sum_at-made-requires-clause-within c = makers-within c.args.graph.now c.args.counts.now c.requires c.loop-node.node (omega (arith, c.loop-node-test.true, c.nodes-node-end.ensures.nodes)) c.makers.result.now c.makers.ensures

pub sum_at-made-requires-clause-few : goal.sum_at-made-requires-clause-few
sum_at-made-requires-clause-few c = makers-few c.args.graph.now c.args.counts.now c.requires c.loop-node.node (omega (arith, c.loop-node-test.true, c.nodes-node-end.ensures.nodes)) c.makers.result.now c.makers.ensures

pub sum_at-used-requires-clause-within : goal.sum_at-used-requires-clause-within
sum_at-used-requires-clause-within c = users-within c.args.graph.now c.args.counts.now c.requires c.loop-node.node (omega (arith, c.loop-node-test.true, c.nodes-node-end.ensures.nodes)) c.users.result.now c.users.ensures

pub sum_at-used-requires-clause-few : goal.sum_at-used-requires-clause-few
sum_at-used-requires-clause-few c = users-few c.args.graph.now c.args.counts.now c.requires c.loop-node.node (omega (arith, c.loop-node-test.true, c.nodes-node-end.ensures.nodes)) c.users.result.now c.users.ensures

not-root : (root : Option ℕ) (n : ℕ) → false ≡ option_eq nat_eq root (Some n) → root ≡ Some n → ⊥
not-root root n g e = clash (subst (λ (o : Option ℕ). false ≡ option_eq nat_eq o (Some n)) e g ∙ eq-eqb n n refl)
  where
    clash : false ≡ true → ⊥
    clash q = cc

pub returns-then-made-used : goal.returns-then-made-used
returns-then-made-used c = λ asked.
    let lt : c.loop-node.node < length c.args.graph.now.nodes = omega (arith, c.loop-node-test.true, c.nodes-node-end.ensures.nodes) in
    uneven c.args.graph.now c.args.counts.now asked c.loop-node.node lt (c.loop-node.invariant asked) (λ e. not-root c.root.result c.loop-node.node c.if-eq.ensures (c.root.ensures ∙ e))
    c.sum_at-made.result c.sum_at-used.result c.makers.result.now c.users.result.now c.makers.ensures c.users.ensures c.sum_at-made.ensures c.sum_at-used.ensures c.if-made-used.true

pub loop-node-preserved : goal.loop-node-preserved
loop-node-preserved c = λ asked.
    let lt : c.loop-node.node < length c.args.graph.now.nodes = omega (arith, c.loop-node-test.true, c.nodes-node-end.ensures.nodes) in
    even-next c.args.graph.now c.args.counts.now asked c.loop-node.node lt (c.loop-node.invariant asked)
    (even-sums c.args.graph.now c.args.counts.now asked c.loop-node.node lt c.sum_at-made.result c.sum_at-used.result c.makers.result.now c.users.result.now c.makers.ensures c.users.ensures c.sum_at-made.ensures c.sum_at-used.ensures c.if-made-used.false)
