use Rattle.std.proofs.Common.{arith, ℕ, subst}
use Rattle.search_branch_price.specs.Roots.{AreShown}
use Rattle.search_branch_price.proofs.HaltedRoots.{stopped-root}
use Rattle.search_branch_price.proofs.Leaves.{leaf-cuts}
use Rattle.search_branch_price.proofs.ShownValues.{small-cuts}
use Rattle.search_branch_price.proofs.StepsLemmas.{turn-stopped, loose-path}
use Rattle.search_branch_price.proofs.leaf.stopped_end.Goals as goal

pub shown_prices-requires-clause-small : goal.shown_prices-requires-clause-small
shown_prices-requires-clause-small c =
    let r = c.requires.leaf in
    let n = c.args.node.now in
    let i = n.searched.day.instance.now in
    small-cuts i n.cuts.now (leaf-cuts i n.searched.day.graph.now r.0 r.1 r.2 r.3 c.args.progress.now c.args.leaf n.cuts.now c.requires.node.searched.is.day.sound r.4)

pub returns-in_default-clause-stops : goal.returns-in_default-clause-stops
returns-in_default-clause-stops c = λ strict before now low patient restless asked.
    turn-stopped c.args.node.now.searched.day.instance.now c.args.node.now.searched.day.graph.now strict before now low patient c.args.progress.now c.args.leaf c.args.node.now.cuts.now asked restless

pub returns-in-None-clause-stops : goal.returns-in-None-clause-stops
returns-in-None-clause-stops c = λ strict before now low patient restless asked.
    turn-stopped c.args.node.now.searched.day.instance.now c.args.node.now.searched.day.graph.now strict before now low patient c.args.progress.now c.args.leaf c.args.node.now.cuts.now asked restless

pub returns-in-Some-shown_prices-clause-stops : goal.returns-in-Some-shown_prices-clause-stops
returns-in-Some-shown_prices-clause-stops c =
    let n = c.args.node.now in
    let i = n.searched.day.instance.now in
    let v = n.searched.day.graph.now in
    let p = c.args.progress.now in
    let is = c.requires.node in
    let loose = loose-path i v n.cuts.now n.arc_box.now is.left n.loose is.loose is.searched.is.day.graph in
    let busy = c.processed.ensures in
    let none = c.if-processed-gt0.false in
    let root = c.in-Some-shown_prices.root in
    λ strict before now low patient restless asked.
    stopped-root i v strict before now low patient p c.args.leaf n.cuts.now root asked restless (omega (arith, busy, none)) is.searched.is.busy loose
    (subst (λ (x : ℕ). AreShown i n.cuts.now x root) c.limit-limit.ensures c.in-Some-shown_prices.ensures.shown)
