-- The places of periods and rows.
use Rattle.std.specs.Prelude.{ℕ, ◌+◌, ◌*◌, ◌/◌, min, max}
use Rattle.page_parts.specs.declared.sheet.PeriodAxis.{PeriodAxis}

-- how wide a period is: the periods share 740 pixels, and have each at least 10 and at most 40
abbrev pub width_of : ℕ → ℕ
width_of periods = min (max (740 / max periods 1) 10) 40

-- the sheet of so many periods, with room for names of so many columns and for amounts in words of so many
abbrev pub axis_of : ℕ → ℕ → ℕ → PeriodAxis
axis_of periods longest money = record {
  left = 56 + 8 * min longest 25;
  cell = width_of periods;
  periods = periods;
  margin = 72 + 8 * min money 60;
}

-- where the period behind so many begins
abbrev pub left_of : PeriodAxis → ℕ → ℕ
left_of s place = s.left + s.cell * place

-- where the middle of that period is
abbrev pub middle_of : PeriodAxis → ℕ → ℕ
middle_of s place = left_of s place + s.cell / 2

-- where the last period ends
abbrev pub right_of : PeriodAxis → ℕ
right_of s = left_of s s.periods

-- how wide a chart is
abbrev pub chart_width : PeriodAxis → ℕ
chart_width s = right_of s + s.margin

-- where a row begins
abbrev pub top_of : ℕ → ℕ
top_of row = 32 + 26 * row
