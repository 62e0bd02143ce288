use Rattle.std.proofs.Common.{sym, ◌∙◌}
use Rattle.std.proofs.lemmas.Result.{IfOk-weaker}
use Rattle.search_primal.proofs.ToolsLemmas.{tools-later, more-tools}
use Rattle.search_branch_price.proofs.Leaves.{leaf-cuts}
use Rattle.search_branch_price.proofs.StepsLemmas.{later-node}
use Rattle.search_branch_price.proofs.SolvedEnds.{solved-end, failed-end, stopped-end}
use Rattle.search_branch_price.proofs.leaf.price_leaf.Goals as goal

pub ask_master-requires-clause-cuts : goal.ask_master-requires-clause-cuts
ask_master-requires-clause-cuts g c =
    let r = c.requires.leaf in
    let n = c.args.node.now in
    let are = leaf-cuts n.searched.day.instance.now n.searched.day.graph.now (g.M.Master.strict c.args.master.now) r.0 (g.M.Master.refused c.args.master.now) r.1 c.args.progress.now c.args.leaf n.cuts.now c.requires.node.searched.is.day.sound r.2 in
    record { each = are.node; few = are.few }

pub give_up_leaf-requires-clause-leaf : goal.give_up_leaf-requires-clause-leaf
give_up_leaf-requires-clause-leaf g c =
    let r = c.requires.leaf in
    let n = c.args.node.now in
    let strict = g.M.Master.strict c.args.master.now in
    let patient = g.W.Watch.patient c.args.watch.now in
    let now = g.M.Master.refused c.args.master.now in
    let later = g.M.Master.refused c.ask_master.new.master in (
      strict,
      r.0,
      now,
      r.1,
      later,
      r.2,
      failed-end n.searched.day.instance.now n.cuts.now c.ask_master.new.pool now later strict patient c.in_ok-end.end c.in_ok-end.ensures.end c.in_ok-end.ensures.counted.counts c.ask_master.ensures.counted.within c.in-Failed.cause (sym c.outcome_of.ensures ∙ c.in-Failed.is),
    )

pub best_leaf-requires-clause-solved : goal.best_leaf-requires-clause-solved
best_leaf-requires-clause-solved g c =
    let n = c.args.node.now in
    let strict = g.M.Master.strict c.args.master.now in
    let patient = g.W.Watch.patient c.args.watch.now in
    let now = g.M.Master.refused c.args.master.now in
    let later = g.M.Master.refused c.ask_master.new.master in
    solved-end n.searched.day.instance.now n.cuts.now c.ask_master.new.pool now later strict patient c.in_ok-end.end c.in_ok-end.ensures.end c.in_ok-end.ensures.counted.counts c.ask_master.ensures.counted.within c.in-Solved.solved (sym c.outcome_of.ensures ∙ c.in-Solved.is)

pub best_leaf-requires-clause-tools : goal.best_leaf-requires-clause-tools
best_leaf-requires-clause-tools g c = tools-later c.args.node.now.searched.day c.args.pool.now c.ask_master.new.pool c.ask_master.new.workspace c.ask_master.ensures.tools

pub best_leaf-requires-clause-leaf : goal.best_leaf-requires-clause-leaf
best_leaf-requires-clause-leaf g c = let r = c.requires.leaf in (g.M.Master.strict c.args.master.now, r.0, g.M.Master.refused c.args.master.now, r.1, r.2)

pub returns-in_ok-give_up_leaf-in-Failed-clause-turned : goal.returns-in_ok-give_up_leaf-in-Failed-clause-turned
returns-in_ok-give_up_leaf-in-Failed-clause-turned g c =
    let n = c.args.node.now in
    let strict = g.M.Master.strict c.args.master.now in
    let patient = g.W.Watch.patient c.args.watch.now in
    let now = g.M.Master.refused c.args.master.now in
    let later = g.M.Master.refused c.ask_master.new.master in
    let given = failed-end n.searched.day.instance.now n.cuts.now c.ask_master.new.pool now later strict patient c.in_ok-end.end c.in_ok-end.ensures.end c.in_ok-end.ensures.counted.counts c.ask_master.ensures.counted.within c.in-Failed.cause (sym c.outcome_of.ensures ∙ c.in-Failed.is) in
    λ before low asked. c.in_ok-give_up_leaf-in-Failed.ensures.turned strict before now low later asked given

pub returns-in_ok-best_leaf-in-Solved-clause-turned : goal.returns-in_ok-best_leaf-in-Solved-clause-turned
returns-in_ok-best_leaf-in-Solved-clause-turned g c =
    let n = c.args.node.now in
    let strict = g.M.Master.strict c.args.master.now in
    let patient = g.W.Watch.patient c.args.watch.now in
    let now = g.M.Master.refused c.args.master.now in
    let later = g.M.Master.refused c.ask_master.new.master in
    λ before low asked. c.in_ok-best_leaf-in-Solved.ensures.turned strict before later low
    (later-node n.searched.day.instance.now n.searched.day.graph.now strict before now later low c.args.progress.now c.args.leaf n.cuts.now asked c.ask_master.ensures.counted.rises c.ask_master.ensures.counted.within)

pub stop_leaf-requires-clause-workspace : goal.stop_leaf-requires-clause-workspace
stop_leaf-requires-clause-workspace g c = c.ask_master.ensures.tools.workspace

pub stop_leaf-requires-clause-own : goal.stop_leaf-requires-clause-own
stop_leaf-requires-clause-own g c =
    let n = c.args.node.now in
    let strict = g.M.Master.strict c.args.master.now in
    let patient = g.W.Watch.patient c.args.watch.now in
    let now = g.M.Master.refused c.args.master.now in
    let later = g.M.Master.refused c.ask_master.new.master in
    let stops = stopped-end n.searched.day.instance.now n.cuts.now c.ask_master.new.pool now later strict patient c.in_ok-end.end c.in_ok-end.ensures.end c.in_ok-end.ensures.counted.counts c.ask_master.ensures.counted.within c.in-Stopped.own (sym c.outcome_of.ensures ∙ c.in-Stopped.is) in
    stops.1

pub stop_leaf-requires-clause-leaf : goal.stop_leaf-requires-clause-leaf
stop_leaf-requires-clause-leaf g c = let r = c.requires.leaf in (g.M.Master.strict c.args.master.now, r.0, g.M.Master.refused c.args.master.now, r.1, r.2)

pub returns-in-Stopped-clause-turned : goal.returns-in-Stopped-clause-turned
returns-in-Stopped-clause-turned g c =
    let n = c.args.node.now in
    let i = n.searched.day.instance.now in
    let v = n.searched.day.graph.now in
    let strict = g.M.Master.strict c.args.master.now in
    let patient = g.W.Watch.patient c.args.watch.now in
    let now = g.M.Master.refused c.args.master.now in
    let later = g.M.Master.refused c.ask_master.new.master in
    let stops = stopped-end i n.cuts.now c.ask_master.new.pool now later strict patient c.in_ok-end.end c.in_ok-end.ensures.end c.in_ok-end.ensures.counted.counts c.ask_master.ensures.counted.within c.in-Stopped.own (sym c.outcome_of.ensures ∙ c.in-Stopped.is) in
    IfOk-weaker c.stop_leaf.result _ _
    (λ end ends before low asked. ends strict before later low patient stops.0
    (later-node i v strict before now later low c.args.progress.now c.args.leaf n.cuts.now asked c.ask_master.ensures.counted.rises c.ask_master.ensures.counted.within))
    c.stop_leaf.ensures.stops

pub returns-in-Stopped-clause-tools : goal.returns-in-Stopped-clause-tools
returns-in-Stopped-clause-tools g c = record { pool = c.ask_master.ensures.tools.pool; workspace = c.stop_leaf.ensures.workspace }

pub give_up_leaf-requires-clause-tools : goal.give_up_leaf-requires-clause-tools
give_up_leaf-requires-clause-tools g c = tools-later c.args.node.now.searched.day c.args.pool.now c.ask_master.new.pool c.ask_master.new.workspace c.ask_master.ensures.tools

pub returns-in_ok-give_up_leaf-in-Failed-clause-tools : goal.returns-in_ok-give_up_leaf-in-Failed-clause-tools
returns-in_ok-give_up_leaf-in-Failed-clause-tools g c =
    more-tools c.args.node.now.searched.day c.args.pool.now c.ask_master.new.pool c.give_up_leaf.new.pool c.ask_master.new.workspace c.give_up_leaf.new.workspace c.ask_master.ensures.tools c.give_up_leaf.ensures.tools

pub returns-in_err-give_up_leaf-in-Failed-clause-tools : goal.returns-in_err-give_up_leaf-in-Failed-clause-tools
returns-in_err-give_up_leaf-in-Failed-clause-tools g c =
    more-tools c.args.node.now.searched.day c.args.pool.now c.ask_master.new.pool c.give_up_leaf.new.pool c.ask_master.new.workspace c.give_up_leaf.new.workspace c.ask_master.ensures.tools c.give_up_leaf.ensures.tools

pub returns-in_ok-best_leaf-in-Solved-clause-tools : goal.returns-in_ok-best_leaf-in-Solved-clause-tools
returns-in_ok-best_leaf-in-Solved-clause-tools g c =
    more-tools c.args.node.now.searched.day c.args.pool.now c.ask_master.new.pool c.best_leaf.new.pool c.ask_master.new.workspace c.best_leaf.new.workspace c.ask_master.ensures.tools c.best_leaf.ensures.tools

pub returns-in_err-best_leaf-in-Solved-clause-tools : goal.returns-in_err-best_leaf-in-Solved-clause-tools
returns-in_err-best_leaf-in-Solved-clause-tools g c =
    more-tools c.args.node.now.searched.day c.args.pool.now c.ask_master.new.pool c.best_leaf.new.pool c.ask_master.new.workspace c.best_leaf.new.workspace c.ask_master.ensures.tools c.best_leaf.ensures.tools
