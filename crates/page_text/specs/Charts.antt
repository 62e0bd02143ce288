-- The charts of the coverage: for a code and period by period what is needed and what is had.
use Rattle.std.specs.Prelude.{ℕ, ◌+◌, ◌-◌, ◌*◌, ◌/◌, ◌%◌, Bool, ◌&&◌, List, [], ◌∷◌, ◌++◌, nat_eq, nat_le, nat_lt, codes, max, min, if◌then◌else◌}
use Rattle.std.specs.List.{flat_map}
use Rattle.page_parts.specs.Elements.{Element, marks, number, bar, figure, places}
use Rattle.page_parts.specs.Axes.{left_of, right_of}
use Rattle.page_parts.specs.declared.sheet.PeriodAxis.{PeriodAxis}
use Rattle.page_text.specs.declared.column.CellCover.{CellCover}
use Rattle.page_text.specs.declared.ink.Ink.{Ink}
use Rattle.page_text.specs.declared.ink.Ink.TheVariants.{Bars, Need, Floor, Ceiling, Needed, Had, Short, Over}

-- the ceiling that a chart shows, or 0 where there is none; 64 is none, since no more employees work
abbrev pub ceiling_of : CellCover → ℕ
ceiling_of c = if nat_lt c.ceiling 64 then c.ceiling else 0

-- the greatest count that a chart shows of a column
abbrev pub peak : CellCover → ℕ
peak c = max (max c.need c.have) (max c.floor (ceiling_of c))

-- the greater of a count and of what the chart of a code shows of a column
unfoldable pub higher : ℕ → ℕ → CellCover → ℕ
higher code most c = if nat_eq c.code code then max most (peak c) else most

-- the greatest count that the chart of a code shows, and at least `most`
abbrev pub top_count : ℕ → List CellCover → ℕ → ℕ
top_count code [] most = most
top_count code (c ∷ cs) most = top_count code cs (higher code most c)

-- how high one employee is
abbrev pub unit_of : ℕ → ℕ
unit_of top = min (96 / max top 1) 48

-- where a chart ends at its bottom, and where a count ends above it
abbrev pub base : ℕ
base = 112

abbrev pub level : ℕ → ℕ → ℕ
level unit count = base - unit * count

abbrev pub from_of : PeriodAxis → CellCover → ℕ
from_of s c = left_of s (c.period - 1)

-- a bar of so many employees, down from a count
unfoldable pub column_bar : List ℕ → PeriodAxis → ℕ → CellCover → ℕ → ℕ → List Element
column_bar class s unit c top count =
    bar class (record { left = from_of s c; top = level unit top; width = s.cell; height = unit * count })
    ∷ []

-- the bars of a column: who is needed and there, who is missing, and who is there beyond the need
unfoldable pub column_bars : PeriodAxis → ℕ → CellCover → List Element
column_bars s unit c =
    column_bar (codes "have") s unit c (min c.need c.have) (min c.need c.have)
    ++ (column_bar (codes "short") s unit c c.need c.short
    ++ column_bar (codes "over") s unit c c.have c.over)

-- a step of a line: up or down to a count, and then to the end of the period
unfoldable pub need_step : PeriodAxis → ℕ → CellCover → List Element
need_step s unit c =
    marks (codes "V") ∷ number (level unit c.need) ∷ marks (codes "H") ∷ number (from_of s c + s.cell) ∷ []

-- a line over one period at a count
unfoldable pub segment : PeriodAxis → ℕ → CellCover → ℕ → List Element
segment s unit c count =
    marks (codes "M") ∷ number (from_of s c) ∷ marks (codes " ") ∷ number (level unit count)
    ∷ marks (codes "H") ∷ number (from_of s c + s.cell) ∷ []

-- the line of a floor, where it is above 0
unfoldable pub floor_line : PeriodAxis → ℕ → CellCover → List Element
floor_line s unit c = if nat_lt 0 c.floor then segment s unit c c.floor else []

-- the line of a ceiling, where there is one; it may be 0
unfoldable pub ceiling_line : PeriodAxis → ℕ → CellCover → List Element
ceiling_line s unit c = if nat_lt c.ceiling 64 then segment s unit c c.ceiling else []

-- a count in words
unfoldable pub counted : ℕ → List Element
counted n = marks (codes " ") ∷ number n ∷ []

-- what a column brings to a chart
abbrev pub ink_elements : Ink → PeriodAxis → ℕ → CellCover → List Element
ink_elements Bars s unit c = column_bars s unit c
ink_elements Need s unit c = need_step s unit c
ink_elements Floor s unit c = floor_line s unit c
ink_elements Ceiling s unit c = ceiling_line s unit c
ink_elements Needed s unit c = counted c.need
ink_elements Had s unit c = counted c.have
ink_elements Short s unit c = counted c.short
ink_elements Over s unit c = counted c.over

-- the same, where the column is of a code
unfoldable pub code_ink : Ink → PeriodAxis → ℕ → ℕ → CellCover → List Element
code_ink ink s unit code c = if nat_eq c.code code then ink_elements ink s unit c else []

-- what the columns of a code bring
abbrev pub inked : Ink → PeriodAxis → ℕ → ℕ → List CellCover → List Element
inked ink s unit code cs = flat_map (code_ink ink s unit code) cs

-- the counts of a code in words, period by period
unfoldable pub in_words : PeriodAxis → ℕ → List CellCover → List Element
in_words s code cs =
    marks (codes "Needed by period:") ∷ inked Needed s 0 code cs
    ++ (marks (codes ". At work:") ∷ inked Had s 0 code cs
    ++ (marks (codes ". Short:") ∷ inked Short s 0 code cs
    ++ (marks (codes ". Surplus:") ∷ inked Over s 0 code cs ++ marks (codes ".") ∷ [])))

-- a line over the whole day
unfoldable pub grid : PeriodAxis → ℕ → List Element
grid s top = bar (codes "grid") (record { left = s.left; top = top; width = right_of s - s.left; height = 1 })
    ∷ []

-- the lines at the bottom and at the greatest count, with their numbers
unfoldable pub ends : PeriodAxis → ℕ → ℕ → List Element
ends s unit top =
    grid s (level unit top) ++ (grid s base
    ++ figure (codes "price") (s.left - 8) (level unit top + 4) top
    ∷ figure (codes "price") (s.left - 8) (base + 4) 0 ∷ [])

-- how many counts lie between two lines of the axis
abbrev pub axis_step : ℕ → ℕ
axis_step top =
    if nat_lt top 5 then 1 else (if nat_lt top 11 then 2 else (if nat_lt top 25 then 5 else
    (if nat_lt top 49 then 10 else 20)))

-- the axis has a line at a count below the greatest, whose number has room below that of the greatest
abbrev pub is_axis_count : ℕ → ℕ → ℕ → Bool
is_axis_count unit top count =
    nat_lt 0 count && nat_eq (count % axis_step top) 0 && nat_le 12 (unit * (top - count))

unfoldable pub axis_line : PeriodAxis → ℕ → ℕ → ℕ → List Element
axis_line s unit top count =
    if is_axis_count unit top count then grid s (level unit count)
    ++ figure (codes "price") (s.left - 8) (level unit count + 4) count ∷ [] else []

-- the lines between 0 and the greatest count
abbrev pub axis_lines : PeriodAxis → ℕ → ℕ → List Element
axis_lines s unit top = flat_map (axis_line s unit top) (places (min top 64))

-- the lines of the axis
abbrev pub frame : PeriodAxis → ℕ → ℕ → List Element
frame s unit top = ends s unit top ++ axis_lines s unit top

-- the line of the need, from the bottom to the bottom
unfoldable pub need_line : PeriodAxis → ℕ → ℕ → List CellCover → List Element
need_line s unit code cs =
    marks (codes "<path class='need' d='M") ∷ number s.left ∷ marks (codes " ") ∷ number base
    ∷ inked Need s unit code cs
    ++ (marks (codes "V") ∷ number base ∷ marks (codes "'/>") ∷ [])

-- the lines of the floors and of the ceilings
unfoldable pub limit_lines : PeriodAxis → ℕ → ℕ → List CellCover → List Element
limit_lines s unit code cs =
    marks (codes "<path class='floor' d='") ∷ inked Floor s unit code cs
    ++ (marks (codes "'/><path class='ceiling' d='") ∷ inked Ceiling s unit code cs ++ marks (codes "'/>")
    ∷ [])

abbrev pub lines : PeriodAxis → ℕ → ℕ → List CellCover → List Element
lines s unit code cs = need_line s unit code cs ++ limit_lines s unit code cs
