use Rattle.std.proofs.Common.{◌≡◌, ◌<◌, ◌≢◌, pos, get_or, length, arith, ap, List, None, get_or-set_other, get_or-set_same, below_more, ◌∙◌, to_z-of_z, SFits, rules}
use Rattle.std.specs.Int.{w128}
use Rattle.lp_fractions.specs.Row.{at}
use Rattle.lp_master_rows.specs.declared.rows.BoundRows.{BoundRows}
use Rattle.lp_master_rows.specs.NodeRows.{prices_from}
use Rattle.lp_master_rows.proofs.CellPrices.{price_here, all_here}
use Rattle.lp_master_rows.proofs.rows.NodeRows.gather_cells.Goals as goal

pub loop-cell-preserved : goal.loop-cell-preserved
loop-cell-preserved c = below_more _ _
    (λ k h. let ne : k ≢ c.loop-cell.cell = omega arith in rw get_or-set_other (c.loop-cell.invariant k h))
    (let n : c.loop-cell.cell < length c.args.self.now.bounds = omega (arith, c.loop-cell-test.true, ap (λ (bs : List BoundRows). length bs) c.as_slice-bounds-items.ensures) in
    let lt : c.loop-cell.cell < length c.loop-cell.out = omega (arith, c.loop-cell.auto.out, c.requires.out, n) in
    let ff : SFits w128 c.cell_price.result = search rules in
    let none : BoundRows = record { floor = None; ceiling = None } in
    let e : c.cell_price.result ≡ get_or (prices_from (at c.args.y.now) 0 c.args.self.now.bounds) c.loop-cell.cell (pos 0) =
    price_here (at c.args.y.now) c.args.self.now.bounds c.loop-cell.cell none c.cell_price.result n (rw c.as_slice-bounds-items.ensures at c.cell_price.ensures) in
    rw get_or-set_same (simp to_z-of_z e))

pub returns : goal.returns
returns c =
    let n = ap (λ (bs : List BoundRows). length bs) c.as_slice-bounds-items.ensures in
    let l = c.loop-cell-test.false in
    all_here (at c.args.y.now) c.args.self.now.bounds c.loop-cell.out (c.loop-cell.auto.out ∙ c.requires.out) (λ k h. c.loop-cell.invariant k (omega (arith, n, l, h)))
