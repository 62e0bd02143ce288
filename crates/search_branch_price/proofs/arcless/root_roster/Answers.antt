use Rattle.std.proofs.Common.{List, sym, subst, ◌∙◌}
use Rattle.model_rosters.specs.declared.instance.Cut.{Cut}
use Rattle.law_bounds.specs.Pinned.{IsPinned, IsPinnedValue}
use Rattle.search_arc_counts.specs.node_path.Paths.{PathView}
use Rattle.search_primal.proofs.ToolsLemmas.{grows-more}
use Rattle.search_branch_price.specs.Plans.{AskForArcs, IsPinnedFor}
use Rattle.search_branch_price.proofs.RootLemmas.{root-asks, root-pinned, root-best}
use Rattle.search_branch_price.proofs.arcless.root_roster.Goals as goal

pub offer_least-requires-clause-pinned : goal.offer_least-requires-clause-pinned
offer_least-requires-clause-pinned c =
    let i = c.args.day.now.instance.now in
    let r = c.requires in
    subst (λ (p : PathView). IsPinnedFor i p.cuts c.pinned_value-value.result) (sym c.pinned_value-value.ensures.same)
    (record {
      pinned = subst (λ (cs : List Cut). IsPinned i cs) (sym r.bench.root) (root-pinned i r.day.is.day.sound r.day.is.busy r.day.none);
      costs = c.pinned_value-value.ensures.value;
      asks = subst (λ (cs : List Cut). AskForArcs i cs) (sym r.bench.root) (root-asks i r.day.is.day.sound r.day.is.busy);
    })

pub offer_least-requires-clause-find : goal.offer_least-requires-clause-find
offer_least-requires-clause-find c =
    let t = c.least_roster.ensures.tools in
    let p = c.least_roster.ensures.pricing in
    record {
      tools = record { pool = t.pool.are; workspace = record { pricing = p.are; most = p.most ∙ c.requires.bench.is.tools.workspace.most; rosters = t.workspace; moves = c.requires.bench.is.tools.workspace.moves } };
      good = c.in_ok-best.ensures.roster.good;
    }

pub returns-clause-best : goal.returns-clause-best
returns-clause-best c =
    let i = c.args.day.now.instance.now in
    let r = c.requires in
    root-best i r.day.is.day.sound r.day.is.busy r.day.none c.args.day.now.graph.now r.day.is.day.graph c.in_ok-best.best c.offer_least.new.best c.pinned_value-value.result c.in_ok-best.ensures.roster.start
    (subst (λ (cs : List Cut). IsPinnedValue i cs c.pinned_value-value.result) r.bench.root c.pinned_value-value.ensures.value)
    c.in_ok-offer_least.ensures.reached c.offer_least.ensures.found.better

pub returns-clause-pool : goal.returns-clause-pool
returns-clause-pool c =
    grows-more c.args.day.now c.args.pool.now c.least_roster.new.pool c.offer_least.new.pool c.least_roster.ensures.tools.pool c.offer_least.ensures.found.tools.pool

pub returns-in_err-offer_least-clause-pool : goal.returns-in_err-offer_least-clause-pool
returns-in_err-offer_least-clause-pool c =
    grows-more c.args.day.now c.args.pool.now c.least_roster.new.pool c.offer_least.new.pool c.least_roster.ensures.tools.pool c.offer_least.ensures.found.tools.pool
