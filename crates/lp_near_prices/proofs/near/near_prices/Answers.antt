use Rattle.std.proofs.Common.{arith, true≢false, refl, sym, ◌∙◌}
use Rattle.law_bounds.proofs.near_laws.NearTrees.{near_trees}
use Rattle.lp_near_prices.specs.Shares.{unit}
use Rattle.lp_near_prices.proofs.ListedTrees.{weights, days}
use Rattle.lp_near_prices.proofs.NearAnswers.{few_cuts, near-up, near-down}
use Rattle.lp_near_prices.proofs.near.near_prices.Goals as goal

pub is_near-requires-clause-few : goal.is_near-requires-clause-few
is_near-requires-clause-few c = few_cuts c.args.instance.now c.args.cuts.now c.requires.rows.few

pub returns-in_default-clause-near : goal.returns-in_default-clause-near
returns-in_default-clause-near c = λ ws are. (
  λ e. cc,
  λ near. absurd (c.in_default.ensures.none ws (rw c.as_slice.ensures.value (c.in_ok-sums.ensures.sums ws are)) near.kept),
)

pub returns-then-is_near-clause-near : goal.returns-then-is_near-clause-near
returns-then-is_near-clause-near c = λ ws are.
    let told = c.in-Some.ensures.some ws (rw c.as_slice.ensures.value (c.in_ok-sums.ensures.sums ws are)) in
    let t = c.tree_costs.ensures.value c.args.instance.now ws are in (
      λ e. near-up c.args.instance.now c.args.cuts.now c.args.prices.now c.args.least unit c.requires.busy c.requires.least ws c.tree_costs.result c.in-Some.residuals t told.1 told.0 (c.is_near.ensures.0 c.if-is_near.true),
      λ near. refl,
    )

pub returns-then-is_near-clause-best : goal.returns-then-is_near-clause-best
returns-then-is_near-clause-best c = λ e.
    let g = c.args.instance.now.grammar in
    let w = weights g c.args.pool.now c.requires.pool c.args.listed.now c.requires.listed in
    let told = c.in-Some.ensures.some w.ws (rw c.as_slice.ensures.value (c.in_ok-sums.ensures.sums w.ws w.are)) in
    let t = c.tree_costs.ensures.value c.args.instance.now w.ws w.are in
    let near = near-up c.args.instance.now c.args.cuts.now c.args.prices.now c.args.least unit c.requires.busy c.requires.least w.ws c.tree_costs.result c.in-Some.residuals t told.1 told.0 (c.is_near.ensures.0 c.if-is_near.true) in
    near_trees c.args.instance.now c.args.cuts.now w.ws unit c.args.prices.now c.requires.sound c.requires.busy (omega arith) (days g c.args.pool.now c.args.listed.now w.ws w.are) near

pub returns-clause-near : goal.returns-clause-near
returns-clause-near c = λ ws are.
    let told = c.in-Some.ensures.some ws (rw c.as_slice.ensures.value (c.in_ok-sums.ensures.sums ws are)) in
    let t = c.tree_costs.ensures.value c.args.instance.now ws are in (
      λ e. cc,
      λ near. absurd (true≢false (sym (c.is_near.ensures.1 (near-down c.args.instance.now c.args.cuts.now c.args.prices.now c.args.least unit c.requires.busy c.requires.least ws c.tree_costs.result c.in-Some.residuals t told.1 near)) ∙ c.if-is_near.false)),
    )
