use Rattle.std.proofs.Common.{rules, ◌∙◌}
use Rattle.std.proofs.lemmas.Result.{IfOk-weaker}
use Rattle.search_arc_counts.specs.count_boxes.Paths.{IsBoxOf}
use Rattle.search_primal.proofs.ToolsLemmas.{same-tools}
use Rattle.search_branch_price.proofs.Leaves.{half-node, half-is-node, half-at, half-turned, half-ends}
use Rattle.search_branch_price.proofs.turn.turn.Goals as goal

pub go_to-requires-clause-node : goal.go_to-requires-clause-node
go_to-requires-clause-node g c =
    let r = c.requires.leaf in
    let strict = g.M.Master.strict c.args.master.now in
    let now = g.M.Master.refused c.args.master.now in
    let half = c.in_ok-leaf.ensures c.args.searched.now.day.instance.now strict now r in
    half-node c.args.searched.now.day.instance.now c.args.searched.now.day.graph.now strict r.before now c.args.leaf.bound c.args.progress.now c.halve.new.progress c.in_ok-leaf.leaf c.seats.result.now half c.seats.ensures

pub pin_leaf-requires-clause-leaf : goal.pin_leaf-requires-clause-leaf
pin_leaf-requires-clause-leaf g c =
    let r = c.requires.leaf in
    let strict = g.M.Master.strict c.args.master.now in
    let now = g.M.Master.refused c.args.master.now in
    let half = c.in_ok-leaf.ensures c.args.searched.now.day.instance.now strict now r in
    let node = half-is-node c.args.searched.now.day.instance.now c.args.searched.now.day.graph.now strict r.before now c.args.leaf.bound c.args.progress.now c.halve.new.progress c.in_ok-leaf.leaf c.seats.result.now half c.seats.ensures in (
      strict,
      r.before,
      now,
      c.args.leaf.bound,
      half-at c.args.searched.now.day.instance.now c.args.searched.now.day.graph.now strict r.before now c.args.leaf.bound c.args.progress.now c.halve.new.progress c.in_ok-leaf.leaf c.go_to.new.self.cuts half
          (c.in_ok-go_to.ensures.cuts half.node.tree half.path node),
    )

pub price_leaf-requires-clause-leaf : goal.price_leaf-requires-clause-leaf
price_leaf-requires-clause-leaf g c =
    let r = c.requires.leaf in
    let strict = g.M.Master.strict c.args.master.now in
    let now = g.M.Master.refused c.args.master.now in
    let half = c.in_ok-leaf.ensures c.args.searched.now.day.instance.now strict now r in
    let node = half-is-node c.args.searched.now.day.instance.now c.args.searched.now.day.graph.now strict r.before now c.args.leaf.bound c.args.progress.now c.halve.new.progress c.in_ok-leaf.leaf c.seats.result.now half c.seats.ensures in (
      r.before,
      c.args.leaf.bound,
      half-at c.args.searched.now.day.instance.now c.args.searched.now.day.graph.now strict r.before now c.args.leaf.bound c.args.progress.now c.halve.new.progress c.in_ok-leaf.leaf c.cuts.result.now half
          (c.cuts.ensures ∙ c.in_ok-go_to.ensures.cuts half.node.tree half.path node),
    )

pub returns-in_ok-pin_leaf-in-None-clause-turned : goal.returns-in_ok-pin_leaf-in-None-clause-turned
returns-in_ok-pin_leaf-in-None-clause-turned g c =
    let i = c.args.searched.now.day.instance.now in
    let v = c.args.searched.now.day.graph.now in
    let strict = g.M.Master.strict c.args.master.now in
    let patient = g.W.Watch.patient c.args.watch.now in
    let now = g.M.Master.refused c.args.master.now in
    λ asked.
    let half = c.in_ok-leaf.ensures i strict now asked in
    let node = half-is-node i v strict asked.before now c.args.leaf.bound c.args.progress.now c.halve.new.progress c.in_ok-leaf.leaf c.seats.result.now half c.seats.ensures in
    let at = half-at i v strict asked.before now c.args.leaf.bound c.args.progress.now c.halve.new.progress c.in_ok-leaf.leaf c.go_to.new.self.cuts half
    (c.in_ok-go_to.ensures.cuts half.node.tree half.path node) in
    half-turned i v strict asked.before now now c.args.leaf.bound c.args.progress.now c.halve.new.progress c.pin_leaf.new.progress c.in_ok-leaf.leaf half
    (c.in_ok-pin_leaf-in-None.ensures.turned strict asked.before now c.args.leaf.bound at)

pub returns-in-Some-clause-turned : goal.returns-in-Some-clause-turned
returns-in-Some-clause-turned g c =
    let i = c.args.searched.now.day.instance.now in
    let v = c.args.searched.now.day.graph.now in
    let strict = g.M.Master.strict c.args.master.now in
    let patient = g.W.Watch.patient c.args.watch.now in
    let now = g.M.Master.refused c.args.master.now in
    let later = g.M.Master.refused c.price_leaf.new.master in
    IfOk-weaker c.price_leaf.result _ _
    (λ end turned asked.
    let half = c.in_ok-leaf.ensures i strict now asked in
    let node = half-is-node i v strict asked.before now c.args.leaf.bound c.args.progress.now c.halve.new.progress c.in_ok-leaf.leaf c.seats.result.now half c.seats.ensures in
    let at = half-at i v strict asked.before now c.args.leaf.bound c.args.progress.now c.halve.new.progress c.in_ok-leaf.leaf c.cuts.result.now half
    (c.cuts.ensures ∙ c.in_ok-go_to.ensures.cuts half.node.tree half.path node) in
    half-ends i v strict asked.before now later c.args.leaf.bound patient c.args.progress.now c.halve.new.progress c.price_leaf.new.progress c.in_ok-leaf.leaf end half
    (turned asked.before c.args.leaf.bound at))
    c.price_leaf.ensures.turned

pub pin_leaf-requires-clause-bench : goal.pin_leaf-requires-clause-bench
pin_leaf-requires-clause-bench g c = record { tools = c.requires.bench.tools; path = c.in_ok-go_to.ensures.path }

pub price_leaf-requires-clause-node : goal.price_leaf-requires-clause-node
price_leaf-requires-clause-node g c =
    let i = c.args.searched.now.day.instance.now in
    let v = c.args.searched.now.day.graph.now in
    let left : IsBoxOf i v c.cuts.result.now c.arc_box-arc_box.result.now = rw (c.cuts.ensures, c.arc_box-arc_box.ensures) c.in_ok-go_to.ensures.path.left in
    record { searched = c.requires.searched; left = left; loose = search rules }

pub returns-in_err-leaf-clause-tools : goal.returns-in_err-leaf-clause-tools
returns-in_err-leaf-clause-tools g c = same-tools c.args.searched.now.day c.args.pool.now c.args.bench.now.workspace c.requires.bench.tools

pub returns-in_err-go_to-clause-tools : goal.returns-in_err-go_to-clause-tools
returns-in_err-go_to-clause-tools g c = same-tools c.args.searched.now.day c.args.pool.now c.args.bench.now.workspace c.requires.bench.tools
