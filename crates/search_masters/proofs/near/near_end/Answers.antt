use Rattle.std.proofs.Common.{◌^◌, List, length, rules}
use Rattle.model_rosters.specs.Trees.{Parts}
use Rattle.law_bounds.specs.linear_programs.Solution.{Weighted}
use Rattle.law_bounds.specs.BestPrices.{AreBest}
use Rattle.law_bounds.specs.near_laws.Laws.{AreNear}
use Rattle.lp_near_prices.specs.Listed.{AreWeightsOf}
use Rattle.lp_near_prices.proofs.ListedTrees.{weights, days}
use Rattle.search_masters.specs.Listed.{MayBeListed, AreSharesOf}
use Rattle.search_masters.specs.Ends.{FitNode}
use Rattle.search_masters.proofs.NearEnds.{are_weights, apart}
use Rattle.search_masters.proofs.near.near_end.Goals as goal

pub returns-clause-end : goal.returns-clause-end
returns-clause-end c =
    let i = c.args.task.now.day.instance.now in
    let cuts = c.args.task.now.cuts.now in
    let pool = c.args.pool.now in
    let p = c.in-Some.prices in
    let ls = c.as_slice-listed.result.now in
    let xs = c.in_ok-weights.weights in
    let node : FitNode i cuts p = search rules in
    let may : MayBeListed (length pool) ls = search rules in
    let shares : AreSharesOf ls xs = search rules in
    let best : AreBest i p cuts = search rules in
    let near : (ws : List (Weighted Parts)) → AreWeightsOf i.grammar pool ls ws → AreNear i cuts ws (2 ^ 56) p = search rules in
    let w = weights i.grammar pool c.requires.tools.pool ls may.listed in
    λ calm old new is. (
      c.requires.task.rows.few,
      record {
        fit = node.fit;
        positive = node.positive;
        best = best;
        trees = w.ws;
        day = days i.grammar pool ls w.ws w.are;
        are = are_weights i.grammar pool ls xs w.ws shares may.weights w.are;
        once = apart 0 ls xs may.ascend shares;
        near = near w.ws w.are;
      },
      is,
    )
