use Rattle.std.proofs.Common.{sym, subst}
use Rattle.search_arc_counts.specs.node_path.Paths.{PathView}
use Rattle.search_branch_price.specs.Plans.{IsPinnedFor}
use Rattle.search_branch_price.proofs.OpenPaths.{leaf-asks}
use Rattle.search_branch_price.proofs.StepsLemmas.{asks-pinned, turned-by}
use Rattle.search_branch_price.proofs.leaf.pin_leaf.Goals as goal

pub offer_least-requires-clause-pinned : goal.offer_least-requires-clause-pinned
offer_least-requires-clause-pinned c =
    let r = c.requires.leaf in
    let i = c.args.day.now.instance.now in
    subst (λ (p : PathView). IsPinnedFor i p.cuts c.pinned_value-value.result) (sym c.pinned_value-value.ensures.same)
    (record {
      pinned = c.requires.pinned;
      costs = c.pinned_value-value.ensures.value;
      asks = leaf-asks i c.args.day.now.graph.now r.0 r.1 r.2 r.3 c.args.progress.now c.args.leaf c.args.bench.now.path.cuts c.requires.day.day.sound c.requires.day.busy r.4;
    })

pub offer_least-requires-clause-find : goal.offer_least-requires-clause-find
offer_least-requires-clause-find c = record { tools = c.requires.bench.tools; good = c.requires.leaf.4.is.best }

pub pin-requires : goal.pin-requires
pin-requires c =
    let r = c.requires.leaf in
    asks-pinned c.args.day.now.instance.now c.args.day.now.graph.now r.0 r.1 r.2 r.3 c.args.progress.now c.args.leaf c.args.bench.now.path.cuts c.offer_least.new.best c.pinned_value-value.result
    r.4 c.in_ok-offer_least.ensures.found.better c.requires.pinned c.pinned_value-value.ensures.value c.in_ok-offer_least.ensures.reached

pub returns-clause-turned : goal.returns-clause-turned
returns-clause-turned c = λ strict before now low asked.
    turned-by c.args.day.now.instance.now c.args.day.now.graph.now strict before now now low c.args.progress.now c.args.leaf c.args.bench.now.path.cuts c.offer_least.new.best c.pin.new.self asked
    c.in_ok-offer_least.ensures.found.better
    (c.pin.ensures (asks-pinned c.args.day.now.instance.now c.args.day.now.graph.now strict before now low c.args.progress.now c.args.leaf c.args.bench.now.path.cuts c.offer_least.new.best c.pinned_value-value.result
    asked c.in_ok-offer_least.ensures.found.better c.requires.pinned c.pinned_value-value.ensures.value c.in_ok-offer_least.ensures.reached))
