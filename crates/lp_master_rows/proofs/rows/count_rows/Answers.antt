use Rattle.std.proofs.Common.{◌≡◌, arith, List, length, ap, ◌∙◌, sym}
use Rattle.std.specs.List.{count_by}
use Rattle.model_rosters.specs.declared.instance.Cell.{Cell}
use Rattle.law_bounds.specs.master_laws.Rows.{floor_rows, ceiling_rows, has_floor, has_ceiling}
use Rattle.law_bounds.proofs.master_laws.RowSizes.{row_count}
use Rattle.lp_master_rows.proofs.RowNumbers.{floors_counted, ceilings_counted}
use Rattle.lp_master_rows.proofs.rows.count_rows.Goals as goal

pub returns : goal.returns
returns c =
    let e = c.as_slice-cells.ensures in
    let n = ap (λ (cs : List Cell). length cs) e in
    let f : c.count_floors.result ≡ length (floor_rows c.args.instance.now.cells) = c.count_floors.ensures ∙ ap (λ (cs : List Cell). count_by has_floor cs) e ∙ sym (floors_counted c.args.instance.now.cells) in
    let g : c.count_ceilings.result ≡ length (ceiling_rows c.args.instance.now.cells) = c.count_ceilings.ensures ∙ ap (λ (cs : List Cell). count_by has_ceiling cs) e ∙ sym (ceilings_counted c.args.instance.now.cells) in
    omega (arith, n, f, g, row_count c.args.instance.now c.args.cuts.now)
