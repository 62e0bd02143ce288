use Rattle.std.proofs.Common.{◌≡◌, ◌≤◌, List, ap, ◌∙◌, length, arith, to_z-of_z, SFits, rules, refl}
use Rattle.std.specs.Int.{w64}
use Rattle.model_rosters.specs.declared.instance.Cell.{Cell}
use Rattle.model_rosters.proofs.CostBounds.{cells-le}
use Rattle.law_bounds.specs.master_laws.Rounding.{first_ceiling}
use Rattle.lp_master_rows.proofs.AddedRows.{floors-le}
use Rattle.lp_master_rows.proofs.RowNumbers.{ceilings_begin}
use Rattle.lp_master_rows.proofs.NodeRowsLemmas.{chained, ceilings_at}
use Rattle.lp_master_rows.proofs.rows.NodeRows.new.Goals as goal

few : (c : goal.After-rows-7-1) → length c.as_slice-cells.result.now ≤ 768
few c = let n = ap (λ (cs : List Cell). length cs) c.as_slice-cells.ensures in omega (arith, n, cells-le c.args.instance.now c.requires.sound)

ceilings : (c : goal.After-rows-7-1) → c.len-ceilings.result ≡ first_ceiling c.args.instance.now
ceilings c =
    let e = c.as_slice-cells.ensures in
    c.len-ceilings.ensures
    ∙ ap length (ceilings_at c.args.instance.now _ _ _ c.empty-rows.ensures (rw e at c.in_ok-add_cells.ensures) (rw e at c.in_ok-add_cells-2.ensures))
    ∙ ceilings_begin c.args.instance.now

few_ceilings : (c : goal.After-rows-7-1) → c.len-ceilings.result ≤ 1536
few_ceilings c = omega (arith, ceilings c, cells-le c.args.instance.now c.requires.sound, floors-le c.args.instance.now.cells)

pub overflow_cast-cells : goal.overflow_cast-cells
overflow_cast-cells c = omega (arith, few c)

pub overflow_cast-ceilings : goal.overflow_cast-ceilings
overflow_cast-ceilings c = omega (arith, few_ceilings c)

pub add_bounds-requires-clause-floors : goal.add_bounds-requires-clause-floors
add_bounds-requires-clause-floors c = omega (arith, few c)

pub add_bounds-requires-clause-ceilings : goal.add_bounds-requires-clause-ceilings
add_bounds-requires-clause-ceilings c = omega (arith, few c, few_ceilings c)

pub returns : goal.returns
returns c =
    let e = c.as_slice-cells.ensures in
    let i = c.args.instance.now in
    let fl : SFits w64 c.from.result = search rules in
    let fm : SFits w64 c.from-2.result = search rules in
    let least = rw c.from.ensures at (simp to_z-of_z at c.in_ok-add_row.ensures) in
    let most = rw c.from-2.ensures at (simp to_z-of_z at c.in_ok-add_row-2.ensures) in
    let begin : c.len-ceilings.result ≡ first_ceiling c.args.instance.now =
    c.len-ceilings.ensures
    ∙ ap length (ceilings_at c.args.instance.now _ _ _ c.empty-rows.ensures (rw e at c.in_ok-add_cells.ensures) (rw e at c.in_ok-add_cells-2.ensures))
    ∙ ceilings_begin c.args.instance.now in
    chained c.args.instance.now c.args.cuts.now (length c.args.instance.now.cells) c.len-ceilings.result _ _ _ _ _ _ _ _ c.requires.sound c.requires.few c.empty-rows.ensures
    (rw e at c.in_ok-add_cells.ensures) (rw e at c.in_ok-add_cells-2.ensures) (rw e at c.in_ok-add_cells-3.ensures) least most
    c.in_ok-add_cuts.ensures (rw e at c.in_ok-add_bounds.ensures) refl begin
