-- The table of the shifts.
use Rattle.std.specs.Prelude.{ℕ, Bool, List, [], ◌∷◌, ◌++◌, codes, if◌then◌else◌}
use Rattle.std.specs.List.{flat_map}
use Rattle.page_parts.specs.Amounts.{amount}
use Rattle.page_parts.specs.Elements.{Element, marks, given, number}
use Rattle.page_parts.specs.declared.money.Money.{Money}
use Rattle.page_tables.specs.declared.line.ShiftLine.{ShiftLine}

unfoldable pub text_cell : List ℕ → List Element
text_cell text = marks (codes "<td>") ∷ given text ∷ marks (codes "</td>") ∷ []

-- a cell of a column that not each table has
unfoldable pub text_cell_if : Bool → List ℕ → List Element
text_cell_if shown text = if shown then text_cell text else []

-- what stands before the periods of work
unfoldable pub line_front : Bool → Bool → ShiftLine → List Element
line_front grouped named l =
    marks (codes "<tr><td>") ∷ number l.number ∷ marks (codes "</td>") ∷ text_cell_if grouped l.group
    ++ (text_cell_if named l.who
    ++ marks (codes "<td>") ∷ given l.begin ∷ marks (codes "</td><td>") ∷ given l.end ∷ [])

-- paid time, price and codes of a shift, where amounts are counted in these words
unfoldable pub first_cells : Money → ShiftLine → List Element
first_cells m l =
    marks (codes "<td>") ∷ given l.paid ∷ marks (codes "</td><td>") ∷ amount m l.price
    ++ marks (codes "</td><td class='word'>") ∷ given l.word ∷ marks (codes "</td>") ∷ []

-- the same in the first line of a shift, and nothing in a further one
unfoldable pub last_cells : Money → ShiftLine → List Element
last_cells m l =
    if l.first then first_cells m l else marks (codes "<td></td><td></td><td></td>") ∷ []

-- the rest of the line
unfoldable pub line_end : Money → ShiftLine → List Element
line_end m l =
    marks (codes "</td><td>") ∷ number l.work ∷ marks (codes "</td>") ∷ last_cells m l
    ++ marks (codes "</tr>\n") ∷ []

abbrev pub shift_line : Money → Bool → Bool → ShiftLine → List Element
shift_line m grouped named l = line_front grouped named l ++ line_end m l

abbrev pub shift_lines : Money → Bool → Bool → List ShiftLine → List Element
shift_lines m grouped named ls = flat_map (shift_line m grouped named) ls

-- the title of the column of groups, on a day with groups
unfoldable pub group_head : Bool → List ℕ
group_head grouped = if grouped then codes "<th>Group</th>" else []

-- the title of the column of names, where shifts are named
unfoldable pub who_head : Bool → List ℕ
who_head named = if named then codes "<th>Who</th>" else []

unfoldable pub shift_table : Money → Bool → Bool → List ShiftLine → List Element
shift_table m grouped named ls =
    marks (codes "<section class='list'><h2>List of shifts</h2>\n<div class='scroll'><table><thead><tr><th>Shift</th>")
    ∷ marks (group_head grouped) ∷ marks (who_head named)
    ∷ marks (codes "<th>Begin</th><th>End</th><th>Periods of work</th><th>Paid time</th><th>Price</th><th>Codes</th></tr></thead>\n<tbody>\n")
    ∷ (shift_lines m grouped named ls ++ marks (codes "</tbody></table></div></section>\n") ∷ [])
