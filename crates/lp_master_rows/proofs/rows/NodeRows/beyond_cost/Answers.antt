use Rattle.std.proofs.Common.{◌<◌, length, arith}
use Rattle.lp_master_rows.specs.declared.sense.Sense.TheVariants.{About}
use Rattle.lp_master_rows.proofs.RowNumbers.{some_told, none_told, as_many}
use Rattle.lp_master_rows.proofs.rows.NodeRows.beyond_cost.Goals as goal

below : (c : goal.After-as_slice) → c.args.row < length c.as_slice.result.now
below c =
    let h = c.requires.row in
    omega (arith, h.3, as_many h.0 h.1 c.args.self.now c.as_slice.result.now h.2 c.as_slice.ensures)

pub bounds-as_slice-row : goal.bounds-as_slice-row
bounds-as_slice-row c = below c

low : (c : goal.After-beyond_cost) → c.args.row < length c.as_slice.result.now
low c =
    let h = c.requires.row in
    omega (arith, h.3, as_many h.0 h.1 c.args.self.now c.as_slice.result.now h.2 c.as_slice.ensures)

pub returns-clause-some : goal.returns-clause-some
returns-clause-some c = λ i cuts are.
    some_told i cuts c.args.self.now c.as_slice.result.now are c.as_slice.ensures c.args.row (About 0 0) (low c) c.beyond_cost.result c.beyond_cost.ensures

pub returns-clause-none : goal.returns-clause-none
returns-clause-none c = λ i cuts are.
    none_told i cuts c.args.self.now c.as_slice.result.now are c.as_slice.ensures c.args.row (About 0 0) (low c) c.beyond_cost.result c.beyond_cost.ensures
