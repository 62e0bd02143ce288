use Rattle.std.proofs.Common.{◌≡◌, ℕ, ◌^◌, arith, pos, ℤ, ◌≤ℤ◌, ◌<ℤ◌, SFits, rules, inr, ◌∙◌, ap, length-append, length, [], ◌∷◌}
use Rattle.std.specs.Int.{w64}
use Rattle.std.proofs.lemmas.Int.{to_z-of_z, ints}
use Rattle.lp_tableaus.proofs.Counts.{refused_risen}
use Rattle.lp_tableaus.proofs.Starts.{pushed}
use Rattle.lp_tableaus.proofs.first.unit_costs.Goals as goal

pub returns-in-Err-clause-fault : goal.returns-in-Err-clause-fault
returns-in-Err-clause-fault g c = λ n.
    let p = g.C.Columns.program (g.C.Columns.site c.args.columns.now) in
    let listed = c.requires.units c.loop-row.row c.loop-row-test.true in
    let own = c.cost-cost.ensures (p.unit c.loop-row.row) listed in
    let low = c.requires.costs c.loop-row.row c.loop-row-test.true in
    let f : SFits w64 c.cost-cost.result = search rules in
    let wide = simp to_z-of_z at c.in-Err.ensures.wide in
    let large : pos (2 ^ 39) <ℤ (p.column (p.unit c.loop-row.row)).cost = omega (arith, ints, own, low, wide) in
    (rw c.loop-row.invariant.tally at (refused_risen c.loop-row.tally c.fits_word.new.tally c.in-Err.ensures.counted), inr (c.loop-row.row, p.unit c.loop-row.row, listed, inr large))

pub loop-row-preserved : goal.loop-row-preserved
loop-row-preserved g c =
    let p = g.C.Columns.program (g.C.Columns.site c.args.columns.now) in
    let own = c.cost-cost.ensures (p.unit c.loop-row.row) (c.requires.units c.loop-row.row c.loop-row-test.true) in
    let f : SFits w64 c.cost-cost.result = search rules in
    let items = simp to_z-of_z at c.in-Ok.ensures.items in
    let ok = simp to_z-of_z at c.in_default.ensures.ok in
    let small : c.cost-cost.result ≤ℤ pos (2 ^ 39) = omega (arith, ints, ok) in
    let long = ap length items ∙ length-append c.loop-row.costs.items (c.cost-cost.result ∷ []) in
    record {
      length = omega (arith, long, c.loop-row.invariant.length);
      costs = rw items (pushed (λ (r : ℕ) (z : ℤ). z ≡ (p.column (p.unit r)).cost) c.loop-row.costs.items c.loop-row.row c.cost-cost.result c.loop-row.invariant.length c.loop-row.invariant.costs own);
      small = rw items (pushed (λ (r : ℕ) (z : ℤ). z ≤ℤ pos (2 ^ 39)) c.loop-row.costs.items c.loop-row.row c.cost-cost.result c.loop-row.invariant.length c.loop-row.invariant.small small);
      tally = c.in_default.ensures.counted ∙ c.loop-row.invariant.tally;
    }

pub cost-cost-requires-clause-column : goal.cost-cost-requires-clause-column
cost-cost-requires-clause-column g c =
    let p = g.C.Columns.program (g.C.Columns.site c.args.columns.now) in
    c.count-count.ensures.inside c.loop-row.row (p.unit c.loop-row.row) (c.requires.units c.loop-row.row c.loop-row-test.true)
