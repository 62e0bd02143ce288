use Rattle.std.proofs.lemmas.Result.{IfOk-weaker}
use Rattle.search_branch_price.proofs.Leaves.{asks-split, plan-within, half-asks, whole-asks}
use Rattle.search_branch_price.proofs.turn.halve.Goals as goal

pub arc_at-arc-requires : goal.arc_at-arc-requires
arc_at-arc-requires c =
    let r = c.requires in
    plan-within r.0 c.args.graph.now r.1 r.2 c.args.progress.now c.args.leaf c.in-Some.plan r.3 c.in-Some.is

pub split-requires : goal.split-requires
split-requires c =
    let r = c.requires in
    asks-split r.0 c.args.graph.now r.1 r.2 c.args.progress.now c.args.leaf c.in-Some.plan c.arc_at-arc.result r.3 c.in-Some.is c.arc_at-arc.ensures

pub returns-in-Some : goal.returns-in-Some
returns-in-Some c = IfOk-weaker c.split.result _ _
    (λ half h i strict now asked. half-asks i c.args.graph.now strict now c.args.progress.now c.args.leaf c.split.new.self half asked
    (h (asks-split i c.args.graph.now strict now c.args.progress.now c.args.leaf c.in-Some.plan c.arc_at-arc.result asked c.in-Some.is c.arc_at-arc.ensures)))
    c.split.ensures

pub returns-in-None : goal.returns-in-None
returns-in-None c = λ i strict now asked. whole-asks i c.args.graph.now strict now c.args.progress.now c.args.leaf asked c.in-None.is
