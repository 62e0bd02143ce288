use Rattle.std.proofs.Common.{◌∙◌}
use Rattle.std.proofs.lemmas.Result.{on_ok_weaker}
use Rattle.search_primal.proofs.BetterRosters.{better-more}
use Rattle.search_primal.proofs.ToolsLemmas.{find-later, more-tools}
use Rattle.search_branch_price.proofs.Leaves.{leaf-cuts}
use Rattle.search_branch_price.proofs.LaterPlans.{plan-later, weights-later}
use Rattle.search_branch_price.proofs.ShownValues.{small-cuts, few-cuts, is-shown, priced-node}
use Rattle.search_branch_price.proofs.StepsLemmas.{asks-priced, turned-by, loose-path}
use Rattle.search_branch_price.proofs.leaf.best_leaf.Goals as goal

pub shown_value-value-requires-clause-prices : goal.shown_value-value-requires-clause-prices
shown_value-value-requires-clause-prices g c =
    let r = c.requires.leaf in
    let n = c.args.node.now in
    let i = n.searched.day.instance.now in
    let are = leaf-cuts i n.searched.day.graph.now r.0 r.1 r.2 r.3 c.args.progress.now c.args.leaf n.cuts.now c.requires.node.searched.is.day.sound r.4 in
    record { fit = c.requires.solved.fit; positive = c.requires.solved.positive; small = small-cuts i n.cuts.now are }

pub plan_for-requires-clause-shown : goal.plan_for-requires-clause-shown
plan_for-requires-clause-shown g c =
    let r = c.requires.leaf in
    let n = c.args.node.now in
    let i = n.searched.day.instance.now in
    let are = leaf-cuts i n.searched.day.graph.now r.0 r.1 r.2 r.3 c.args.progress.now c.args.leaf n.cuts.now c.requires.node.searched.is.day.sound r.4 in
    is-shown i n.cuts.now c.args.pool.now c.args.solved c.shown_value-value.result are c.requires.solved c.shown_value-value.ensures.value

pub plan_for-requires-clause-find : goal.plan_for-requires-clause-find
plan_for-requires-clause-find g c =
    let t = c.requires.tools in
    let p = c.shown_value-value.ensures.pricing in
    record {
      tools = record { pool = t.pool; workspace = record { pricing = p.are; most = p.most ∙ t.workspace.most; rosters = t.workspace.rosters; moves = t.workspace.moves } };
      good = c.requires.leaf.4.is.best;
    }

pub offer_at_node-requires-clause-weights : goal.offer_at_node-requires-clause-weights
offer_at_node-requires-clause-weights g c =
    weights-later c.args.pool.now c.plan_for.new.pool c.args.solved.weights c.plan_for.ensures.found.tools.pool.grown c.requires.solved.within

pub offer_at_node-requires-clause-small : goal.offer_at_node-requires-clause-small
offer_at_node-requires-clause-small g c =
    let r = c.requires.leaf in
    let n = c.args.node.now in
    let i = n.searched.day.instance.now in
    let are = leaf-cuts i n.searched.day.graph.now r.0 r.1 r.2 r.3 c.args.progress.now c.args.leaf n.cuts.now c.requires.node.searched.is.day.sound r.4 in
    record { each = few-cuts i n.cuts.now are; few = c.requires.solved.few }

pub offer_at_node-requires-clause-prices : goal.offer_at_node-requires-clause-prices
offer_at_node-requires-clause-prices g c =
    let r = c.requires.leaf in
    let n = c.args.node.now in
    let i = n.searched.day.instance.now in
    let are = leaf-cuts i n.searched.day.graph.now r.0 r.1 r.2 r.3 c.args.progress.now c.args.leaf n.cuts.now c.requires.node.searched.is.day.sound r.4 in
    record { fit = c.requires.solved.fit; positive = c.requires.solved.positive; small = small-cuts i n.cuts.now are }

pub offer_at_node-requires-clause-find : goal.offer_at_node-requires-clause-find
offer_at_node-requires-clause-find g c =
    find-later c.args.node.now.searched.day c.args.pool.now c.plan_for.new.pool c.plan_for.new.workspace c.args.progress.now.best c.plan_for.new.best c.plan_for.ensures.found

pub price-requires : goal.price-requires
price-requires g c =
    let r = c.requires.leaf in
    let n = c.args.node.now in
    let i = n.searched.day.instance.now in
    let v = n.searched.day.graph.now in
    let is = c.requires.node in
    let are = leaf-cuts i v r.0 r.1 r.2 r.3 c.args.progress.now c.args.leaf n.cuts.now is.searched.is.day.sound r.4 in
    let priced = priced-node i n.cuts.now c.args.pool.now c.args.solved c.shown_value-value.result are c.requires.solved c.shown_value-value.ensures.value in
    let loose = loose-path i v n.cuts.now n.arc_box.now is.left n.loose is.loose is.searched.is.day.graph in
    let better = better-more i c.args.progress.now.best c.plan_for.new.best c.offer_at_node.new.best c.plan_for.ensures.found.better c.offer_at_node.ensures.better in
    let plan = plan-later i v n.cuts.now c.args.solved.prices c.in-Ok-plan_for.plan c.shown_value-value.result c.plan_for.new.best c.offer_at_node.new.best c.offer_at_node.ensures.better c.in-Ok-plan_for.ensures.plan in
    asks-priced i v r.0 r.1 r.2 r.3 c.args.progress.now c.args.leaf n.cuts.now c.offer_at_node.new.best c.args.solved.prices c.shown_value-value.result c.in-Ok-plan_for.plan r.4
    better priced loose plan

pub returns-clause-turned : goal.returns-clause-turned
returns-clause-turned g c =
    let n = c.args.node.now in
    let i = n.searched.day.instance.now in
    let v = n.searched.day.graph.now in
    let is = c.requires.node in
    let loose = loose-path i v n.cuts.now n.arc_box.now is.left n.loose is.loose is.searched.is.day.graph in
    let better = better-more i c.args.progress.now.best c.plan_for.new.best c.offer_at_node.new.best c.plan_for.ensures.found.better c.offer_at_node.ensures.better in
    let plan = plan-later i v n.cuts.now c.args.solved.prices c.in-Ok-plan_for.plan c.shown_value-value.result c.plan_for.new.best c.offer_at_node.new.best c.offer_at_node.ensures.better c.in-Ok-plan_for.ensures.plan in
    on_ok_weaker c.price.result
    (λ done strict before now low asked.
    let are = leaf-cuts i v strict before now low c.args.progress.now c.args.leaf n.cuts.now is.searched.is.day.sound asked in
    let priced = priced-node i n.cuts.now c.args.pool.now c.args.solved c.shown_value-value.result are c.requires.solved c.shown_value-value.ensures.value in
    turned-by i v strict before now now low c.args.progress.now c.args.leaf n.cuts.now c.offer_at_node.new.best c.price.new.self asked better
    (done (asks-priced i v strict before now low c.args.progress.now c.args.leaf n.cuts.now c.offer_at_node.new.best c.args.solved.prices c.shown_value-value.result c.in-Ok-plan_for.plan asked
    better priced loose plan)))
    c.price.ensures

pub returns-clause-tools : goal.returns-clause-tools
returns-clause-tools g c =
    more-tools c.args.node.now.searched.day c.args.pool.now c.plan_for.new.pool c.offer_at_node.new.pool c.plan_for.new.workspace c.offer_at_node.new.workspace c.plan_for.ensures.found.tools c.offer_at_node.ensures.tools

pub returns-in_default-plan_for-clause-tools : goal.returns-in_default-plan_for-clause-tools
returns-in_default-plan_for-clause-tools g c = c.plan_for.ensures.found.tools

pub returns-in_default-offer_at_node-clause-tools : goal.returns-in_default-offer_at_node-clause-tools
returns-in_default-offer_at_node-clause-tools g c =
    more-tools c.args.node.now.searched.day c.args.pool.now c.plan_for.new.pool c.offer_at_node.new.pool c.plan_for.new.workspace c.offer_at_node.new.workspace c.plan_for.ensures.found.tools c.offer_at_node.ensures.tools
