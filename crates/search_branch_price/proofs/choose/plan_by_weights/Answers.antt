use Rattle.std.proofs.Common.{ℕ, ◌<◌, sym, subst}
use Rattle.search_branch_price.proofs.StepsLemmas.{loose-within}
use Rattle.search_branch_price.proofs.choose.plan_by_weights.Goals as goal

pub at_least-requires : goal.at_least-requires
at_least-requires c =
    let n = c.args.node.now in
    let lt = loose-within n.day.instance.now n.day.graph.now n.cuts.now n.arc_box.now c.requires.node.left c.args.loose c.requires.loose in
    subst (λ (m : ℕ). c.args.loose < m) (sym c.requires.node.left.made.arcs) lt
