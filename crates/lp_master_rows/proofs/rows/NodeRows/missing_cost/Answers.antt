use Rattle.std.proofs.Common.{◌<◌, length, arith, to_z-of_z, SFits, rules}
use Rattle.std.specs.Int.{w64}
use Rattle.law_bounds.specs.BestPrices.{artificial_cost}
use Rattle.lp_master_rows.specs.declared.sense.Sense.TheVariants.{About}
use Rattle.lp_master_rows.proofs.RowNumbers.{missing_told, as_many}
use Rattle.lp_master_rows.proofs.rows.NodeRows.missing_cost.Goals as goal

below : (c : goal.After-as_slice) → c.args.row < length c.as_slice.result.now
below c =
    let h = c.requires.row in
    omega (arith, h.3, as_many h.0 h.1 c.args.self.now c.as_slice.result.now h.2 c.as_slice.ensures)

pub bounds-as_slice-row : goal.bounds-as_slice-row
bounds-as_slice-row c = below c

pub returns : goal.returns
returns c = λ i cuts are is.
    let fa = c.ranges.artificial in
    let fr : SFits w64 c.missing_cost.result = search rules in
    let l : c.args.row < length c.as_slice.result.now =
    let h = c.requires.row in
    omega (arith, h.3, as_many h.0 h.1 c.args.self.now c.as_slice.result.now h.2 c.as_slice.ensures) in
    let h = simp to_z-of_z at c.missing_cost.ensures in
    simp to_z-of_z (missing_told i cuts c.args.self.now c.as_slice.result.now are c.as_slice.ensures c.args.row (About 0 0) l (artificial_cost i) c.args.artificial c.missing_cost.result is h)
