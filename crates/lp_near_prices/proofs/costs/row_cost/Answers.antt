use Rattle.std.proofs.Common.{rules, ◌≡◌, ◌∙◌, pos, slice_index_or, to_z, of_z}
use mir.Syntax.{w64}
use Rattle.law_bounds.specs.BestPrices.{artificial_cost}
use Rattle.law_bounds.specs.master_laws.Rows.{rows_of}
use Rattle.lp_near_prices.specs.Shares.{unit}
use Rattle.lp_near_prices.proofs.RowShares.{right-small, missing-small, beyond-small, share_is}
use Rattle.std.proofs.lemmas.Option.{slice_get_within}
use Rattle.lp_near_prices.proofs.costs.row_cost.Goals as goal

pub share_of-requires-clause-right : goal.share_of-requires-clause-right
share_of-requires-clause-right c =
    let p = c.requires.row in
    let same : to_z w64 (of_z w64 (slice_index_or c.right.result.now c.args.row (pos 0))) ≡ slice_index_or c.right.result.now c.args.row (pos 0) = search rules in
    rw same (right-small p.0 p.1 p.2.are.sound p.2.small c.args.row _ (c.right.ensures.value p.0 p.1 p.2.are c.args.row p.3))

pub share_of-requires-clause-missing : goal.share_of-requires-clause-missing
share_of-requires-clause-missing c =
    let p = c.requires.row in
    let k : to_z w64 (of_z w64 c.args.artificial) ≡ c.args.artificial = search rules in
    let same : to_z w64 (of_z w64 c.missing_cost.result) ≡ c.missing_cost.result = search rules in
    rw same (missing-small p.0 p.1 p.2.are.sound p.2.small c.args.row _ p.3 (c.missing_cost.ensures p.0 p.1 p.2.are (k ∙ p.2.price)))

pub share_of-requires-clause-beyond : goal.share_of-requires-clause-beyond
share_of-requires-clause-beyond c =
    let p = c.requires.row in
    beyond-small p.0 p.1 p.2.are.sound p.2.small c.args.row c.beyond_cost.result (c.beyond_cost.ensures.some p.0 p.1 p.2.are)

pub returns-clause-value : goal.returns-clause-value
returns-clause-value c = λ i cuts x priced at.
    let lt = slice_get_within (rows_of i cuts) c.args.row x at in
    let k : to_z w64 (of_z w64 c.args.artificial) ≡ c.args.artificial = search rules in
    let r : to_z w64 (of_z w64 (slice_index_or c.right.result.now c.args.row (pos 0))) ≡ slice_index_or c.right.result.now c.args.row (pos 0) = search rules in
    let m : to_z w64 (of_z w64 c.missing_cost.result) ≡ c.missing_cost.result = search rules in
    share_is (rows_of i cuts) c.args.row x at (artificial_cost i) unit c.args.brought _ _ c.beyond_cost.result c.share_of.result
    (r ∙ c.right.ensures.value i cuts priced.are c.args.row lt)
    (m ∙ c.missing_cost.ensures i cuts priced.are (k ∙ priced.price))
    (c.beyond_cost.ensures.some i cuts priced.are)
    (c.beyond_cost.ensures.none i cuts priced.are)
    c.share_of.ensures.value
