use Rattle.std.proofs.Common.{◌≡◌, ℕ, List, [], length, sym, subst, ◌∙◌}
use Rattle.std.proofs.lemmas.Result.{on_ok_weaker}
use Rattle.model_rosters.specs.Cuts.{lo}
use Rattle.model_rosters.specs.arc_laws.Counts.{counts_cost}
use Rattle.search_arc_counts.specs.count_boxes.Boxes.{BoxView}
use Rattle.search_candidates.specs.Offers.{CanBeTrees, Reach, limit_of}
use Rattle.search_candidates.proofs.Limits.{limit-most}
use Rattle.search_primal.proofs.ToolsLemmas.{same-find}
use Rattle.search_branch_price.specs.Plans.{AreLeast}
use Rattle.search_branch_price.proofs.PinnedCounts.{pinned-trees, pinned-reach, is-cheap, reached}
use Rattle.search_branch_price.proofs.pinned.offer_least.Goals as goal

pub offer_counts-requires-clause-counts : goal.offer_counts-requires-clause-counts
offer_counts-requires-clause-counts c =
    let left = c.requires.path.left in
    let least : AreLeast c.arc_box.result.now c.in_ok-counts.counts.items = c.in_ok-counts.ensures in
    let own = subst (λ (b : BoxView). AreLeast b c.in_ok-counts.counts.items) c.arc_box.ensures least in
    subst (λ (xs : List ℕ). length xs ≡ length c.args.day.now.graph.now.arcs) (sym c.deref.ensures.value) (own.each ∙ left.made.arcs)

pub returns-clause-reached : goal.returns-clause-reached
returns-clause-reached c =
    let i = c.args.day.now.instance.now in
    let v = c.args.day.now.graph.now in
    let p = c.args.path.now in
    let most = limit-most i c.args.best.now c.requires.day.day.sound c.requires.find.good in
    let cheap = is-cheap i p.cuts c.args.value (limit_of i c.args.best.now) c.requires.pinned.costs most (rw c.limit.ensures at c.if-limit-value.false) in
    let least : AreLeast c.arc_box.result.now c.in_ok-counts.counts.items = c.in_ok-counts.ensures in
    let own = subst (λ (b : BoxView). AreLeast b c.in_ok-counts.counts.items) c.arc_box.ensures least in
    let reach = pinned-reach i v c.requires.day.day.graph p.cuts p.arc_box c.requires.path.left c.in_ok-counts.counts.items own cheap.listed cheap.are cheap.allowed c.requires.day.day.sound c.requires.pinned.asks in
    let can = subst (λ (xs : List ℕ). CanBeTrees i v xs) (sym c.deref.ensures.value)
    (pinned-trees i v c.requires.day.day.graph p.cuts p.arc_box c.requires.path.left c.in_ok-counts.counts.items own cheap.listed cheap.are cheap.allowed) in
    on_ok_weaker c.offer_counts.result
    (λ h. reached i (limit_of i c.offer_counts.new.best) c.args.value (counts_cost i cheap.listed (lo p.cuts))
    (h (counts_cost i cheap.listed (lo p.cuts)) [] [] (subst (λ (xs : List ℕ). Reach i v xs [] [] (counts_cost i cheap.listed (lo p.cuts))) (sym c.deref.ensures.value) reach)) cheap.cost)
    (c.offer_counts.ensures.reached can)

pub offer_counts-requires-clause-tools : goal.offer_counts-requires-clause-tools
offer_counts-requires-clause-tools c = record { pool = c.requires.find.tools.pool; workspace = c.requires.find.tools.workspace.rosters }

pub returns-clause-found : goal.returns-clause-found
returns-clause-found c =
    let k = c.requires.find.tools.workspace in
    let t = c.offer_counts.ensures.tools in
    record { tools = record { pool = t.pool; workspace = record { pricing = k.pricing; most = k.most; rosters = t.workspace; moves = k.moves } }; better = c.offer_counts.ensures.better }

pub returns-in_err-counts-clause-found : goal.returns-in_err-counts-clause-found
returns-in_err-counts-clause-found c = same-find c.args.day.now c.args.pool.now c.args.workspace.now c.args.best.now c.requires.find

pub returns-then-limit-value-clause-found : goal.returns-then-limit-value-clause-found
returns-then-limit-value-clause-found c = same-find c.args.day.now c.args.pool.now c.args.workspace.now c.args.best.now c.requires.find
