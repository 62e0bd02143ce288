use Rattle.std.proofs.Common.{rules, arith, ◌≡◌, ◌<◌, ◌∙◌, length, to_z, of_z}
use mir.Syntax.{w64}
use Rattle.law_bounds.specs.BestPrices.{artificial_cost}
use Rattle.law_bounds.specs.master_laws.Rows.{rows_of}
use Rattle.lp_near_prices.specs.Shares.{unit}
use Rattle.lp_near_prices.proofs.NearAnswers.{few_cuts}
use Rattle.lp_near_prices.proofs.RowShares.{row_there, told-next, told-end, told-none}
use Rattle.lp_near_prices.proofs.costs.residual_costs.Goals as goal

pub count_rows-row-end-requires-clause-few : goal.count_rows-row-end-requires-clause-few
count_rows-row-end-requires-clause-few c =
    let f = few_cuts c.args.instance.now c.args.cuts.now c.requires.rows.few in
    omega (arith, f)

pub returns-in-None-clause-none : goal.returns-in-None-clause-none
returns-in-None-clause-none c =
    let i = c.args.instance.now in
    let cuts = c.args.cuts.now in
    let k : to_z w64 (of_z w64 c.artificial_price-artificial.result) ≡ c.artificial_price-artificial.result = search rules in
    let e = c.count_rows-row-end.ensures in
    let l = c.loop-row-test.true in
    let lt : c.loop-row.row < length (rows_of i cuts) = omega (arith, e, l) in
    let x = row_there (rows_of i cuts) c.loop-row.row lt in
    let s = c.in-None.ensures.value i cuts x.0 (record { are = c.requires.rows; small = c.requires.cuts; price = k ∙ c.artificial_price-artificial.ensures }) x.1 in
    told-none (artificial_cost i) unit (rows_of i cuts) c.args.sums.now c.loop-row.row x.0 x.1 s

pub loop-row-preserved : goal.loop-row-preserved
loop-row-preserved c =
    let i = c.args.instance.now in
    let cuts = c.args.cuts.now in
    let v = c.loop-row.invariant in
    let k : to_z w64 (of_z w64 c.artificial_price-artificial.result) ≡ c.artificial_price-artificial.result = search rules in
    let e = c.count_rows-row-end.ensures in
    let l = c.loop-row-test.true in
    let lt : c.loop-row.row < length (rows_of i cuts) = omega (arith, e, l) in
    let x = row_there (rows_of i cuts) c.loop-row.row lt in
    let s = c.in-Some.ensures.value i cuts x.0 (record { are = c.requires.rows; small = c.requires.cuts; price = k ∙ c.artificial_price-artificial.ensures }) x.1 in
    let a = c.in-Some.ensures.small in
    record {
      told = told-next (artificial_cost i) unit (rows_of i cuts) c.args.sums.now c.loop-row.row c.loop-row.sum c.in-Some.cost x.0 v.told x.1 s;
      small = omega (arith, v.small, a);
    }

pub returns-clause-some : goal.returns-clause-some
returns-clause-some c =
    let i = c.args.instance.now in
    let cuts = c.args.cuts.now in
    let e = c.count_rows-row-end.ensures in
    let l = c.loop-row-test.false in
    told-end (artificial_cost i) unit (rows_of i cuts) c.args.sums.now c.loop-row.row c.loop-row.sum (omega (arith, e, l)) c.loop-row.invariant.told
