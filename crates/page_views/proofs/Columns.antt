-- The columns of a day are few, and their penalties are small.
use Rattle.std.proofs.Common.{◌≤◌, ℕ, Option, None, Some, List, length, map, arith}
use Rattle.std.proofs.lemmas.List.{length-map}
use Rattle.std.proofs.lemmas.List.Elements.{All-nil}
use Rattle.model_rosters.specs.declared.instance.Cell.{Cell}
use Rattle.model_rosters.specs.declared.instance.Instance.{Instance}
use Rattle.model_rosters.specs.Coverage.{covered, covers_cell}
use Rattle.model_rosters.specs.Duties.{Duty, duty}
use Rattle.model_rosters.specs.Limits.{IsDayCell}
use Rattle.model_rosters.specs.SoundInstance.{IsSoundInstance}
use Rattle.model_rosters.proofs.CostBounds.{penalty_le}
use Rattle.model_rosters.proofs.EachLemmas.{Each-map, each_all}
use Rattle.model_rosters.proofs.SoundCells.{cells_of_day, few_cells}
use Rattle.model_rosters.proofs.arc_laws.FoldsLemmas.{count-le-length}
use Rattle.check_certificates.specs.RosterCauses.{duties}
use Rattle.page_text.specs.Columns.{column_of}
use Rattle.page_text.specs.Costs.{AreDayColumns}
use Rattle.page_text.specs.declared.column.CellCover.{CellCover}
use Rattle.text_reports.specs.Reports.{HasSoundShifts}
use Rattle.page_views.specs.declared.roster.ShownRoster.{ShownRoster}
use Rattle.page_views.specs.Draw.{columns_of}

small : (i : Instance) (ds : List Duty) → length ds ≤ 64 → (c : Cell) → IsDayCell i.grammar c → (column_of i.grammar ds c).penalty ≤ 1280000
small i ds few c day =
    let most = count-le-length (λ (d : Duty). covers_cell i.grammar c d.word) ds in
    penalty_le c (covered i.grammar c ds) (omega (arith, most, few)) day.limited

by_cost : (i : Instance) (r : ShownRoster) (o : Option ℕ) → IsSoundInstance i → HasSoundShifts i r.shifts → AreDayColumns (columns_of i r o)
by_cost i r None sound shifts = record { few = omega arith; small = All-nil (λ (x : CellCover). x.penalty ≤ 1280000) }
by_cost i r (Some cost) sound shifts =
    let ds = duties r.shifts in
    let short : length ds ≤ 64 = omega (arith, length-map r.shifts duty, shifts.few) in
    let day = cells_of_day i.grammar i.cells sound.cells in
    record {
      few = omega (arith, length-map i.cells (column_of i.grammar ds), few_cells i.grammar i.cells sound.grammar.codes sound.grammar.few_periods sound.cells);
      small = each_all (λ (x : CellCover). x.penalty ≤ 1280000) (map (column_of i.grammar ds) i.cells)
          (Each-map (IsDayCell i.grammar) (λ (x : CellCover). x.penalty ≤ 1280000) (column_of i.grammar ds) (small i ds short) i.cells day);
    }

pub day_columns : (i : Instance) (r : ShownRoster) → IsSoundInstance i → HasSoundShifts i r.shifts → AreDayColumns (columns_of i r r.cost)
day_columns i r sound shifts = by_cost i r r.cost sound shifts
