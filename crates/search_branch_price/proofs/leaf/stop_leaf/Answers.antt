use Rattle.std.proofs.Common.{◌∙◌}
use Rattle.search_branch_price.proofs.StepsLemmas.{node-better, better-ends}
use Rattle.search_branch_price.proofs.leaf.stop_leaf.Goals as goal

pub offer_late-requires-clause-good : goal.offer_late-requires-clause-good
offer_late-requires-clause-good g c = c.requires.leaf.4.is.best

pub stopped_end-requires-clause-leaf : goal.stopped_end-requires-clause-leaf
stopped_end-requires-clause-leaf g c =
    let r = c.requires.leaf in
    let n = c.args.node.now in
    (r.0, r.1, r.2, r.3, node-better n.searched.day.instance.now n.searched.day.graph.now r.0 r.1 r.2 r.3 c.args.progress.now c.args.leaf n.cuts.now c.offer_late.new.best r.4 c.offer_late.ensures.better)

pub returns-clause-stops : goal.returns-clause-stops
returns-clause-stops g c =
    let n = c.args.node.now in
    let i = n.searched.day.instance.now in
    let v = n.searched.day.graph.now in
    let p = c.args.progress.now in
    let best = c.offer_late.new.best in
    λ strict before now low patient restless asked.
    better-ends i v strict before now low patient p best (record { tree = p.tree; best = best }) c.stopped_end.result c.offer_late.ensures.better
    (c.stopped_end.ensures.stops strict before now low patient restless (node-better i v strict before now low p c.args.leaf n.cuts.now best asked c.offer_late.ensures.better))

pub returns-clause-workspace : goal.returns-clause-workspace
returns-clause-workspace g c =
    let t = c.offer_late.ensures.workspace in
    let p = c.stopped_end.ensures.pricing in
    record { pricing = p.are; most = p.most ∙ t.most; rosters = t.rosters; moves = t.moves }
