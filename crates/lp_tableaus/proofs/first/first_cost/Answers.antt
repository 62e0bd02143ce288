use Rattle.std.proofs.Common.{ℕ, ◌<◌, ◌≤◌, ◌^◌, arith, SFits, rules, unsigned_abs, inl, ap, ◌∙◌}
use Rattle.std.specs.Int.{w128, w64}
use Rattle.std.proofs.lemmas.Int.{to_z-of_z, ints}
use Rattle.lp_fractions.specs.Row.{at}
use Rattle.law_bounds.specs.linear_programs.Sums.{dot}
use Rattle.lp_tableaus.proofs.Counts.{refused_risen}
use Rattle.lp_tableaus.proofs.Starts.{first_wide, first_line}
use Rattle.lp_tableaus.proofs.first.first_cost.Goals as goal

pub returns-in-Err-fits-clause-fault : goal.returns-in-Err-fits-clause-fault
returns-in-Err-fits-clause-fault g c = λ n.
    let p = g.C.Columns.program (g.C.Columns.site c.args.columns.now) in
    let costs = c.in-Ok.costs.items in
    let f : SFits w128 c.value_of-value.result = search rules in
    let k : SFits w128 c.from.result = search rules in
    let long = c.in-Ok.ensures.length ∙ c.requires.length in
    let value = rw c.as_slice.ensures.value at c.value_of-value.ensures in
    let most = c.from.ensures in
    let wide = simp to_z-of_z at c.in-Err-fits.ensures.wide in
    let above : 2 ^ 56 < unsigned_abs c.value_of-value.result = omega (arith, ints, wide, most) in
    let y = rw c.requires.length at c.in-Ok.ensures.costs in
    let same = rw c.requires.length at c.requires.right in
    (rw c.in-Ok.ensures.same at (refused_risen c.unit_costs.new.tally c.fits.new.tally c.in-Err-fits.ensures.counted), inl (first_wide p costs c.args.right.now c.value_of-value.result long y same value above))

pub returns-in-Ok-cost_line-clause-cost : goal.returns-in-Ok-cost_line-clause-cost
returns-in-Ok-cost_line-clause-cost g c =
    let p = g.C.Columns.program (g.C.Columns.site c.args.columns.now) in
    let costs = c.in-Ok.costs.items in
    let f : SFits w128 c.value_of-value.result = search rules in
    let k : SFits w128 c.from.result = search rules in
    let long = c.in-Ok.ensures.length ∙ c.requires.length in
    let most = c.from.ensures in
    let ok = simp to_z-of_z at c.in_default.ensures.ok in
    let narrow : unsigned_abs c.value_of-value.result ≤ 2 ^ 56 = omega (arith, ints, ok, most) in
    let h : SFits w64 c.value_of-value.result = search rules in
    let value = rw c.as_slice.ensures.value at c.value_of-value.ensures in
    let y = rw c.requires.length at c.in-Ok.ensures.costs in
    let high = rw c.requires.length at c.in-Ok.ensures.small in
    let low = rw c.requires.length at c.requires.costs in
    let line = simp to_z-of_z at c.in-Ok-cost_line.ensures in
    rw line (first_line p costs c.value_of-value.result long c.args.right.now y (λ i b. (rw (y i b) (low i b), high i b)) (value ∙ ap (λ (n : ℕ). dot n (at costs) (at c.args.right.now)) long) narrow)
