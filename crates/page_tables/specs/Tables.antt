-- The tables and lists of a page.
use Rattle.std.specs.Prelude.{ℕ, List, [], ◌∷◌, ◌++◌, codes, length, nat_lt, if◌then◌else◌}
use Rattle.page_parts.specs.Elements.{Element, marks}
use Rattle.page_parts.specs.declared.money.Money.{Money}
use Rattle.page_tables.specs.HeadTable.{head_table}
use Rattle.page_tables.specs.MomentTable.{moment_list}
use Rattle.page_tables.specs.RunLists.{run_list}
use Rattle.page_tables.specs.ShiftTable.{shift_table}
use Rattle.page_tables.specs.TotalTable.{total_table}
use Rattle.page_tables.specs.declared.tables.Tables.{Tables}

-- the tables and lists, where amounts are counted in these words
unfoldable pub some_tables : Money → Tables → List Element
some_tables m t =
    marks (codes "<div class='lists'>\n")
    ∷ (run_list m (codes "Shortages") t.shortages ++ (run_list m (codes "Surplus") t.surplus
    ++ (total_table t.totals t.covered ++ (head_table t.heads ++ (moment_list t.moments
    ++ (shift_table m t.grouped t.named t.shifts ++ marks (codes "</div>\n") ∷ []))))))

-- the same, where there are any shifts
unfoldable pub page_tables : Money → Tables → List Element
page_tables m t = if nat_lt 0 (length t.shifts) then some_tables m t else []
