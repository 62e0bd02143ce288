-- The chart of the shifts: one row a shift, a bar for each period.
use Rattle.std.specs.Prelude.{ℕ, ◌+◌, ◌-◌, ◌%◌, Bool, Option, None, Some, List, [], ◌∷◌, ◌++◌, length, nat_eq, nat_lt, slice_get, codes, if◌then◌else◌}
use Rattle.std.specs.List.{flat_map}
use Rattle.model_rosters.specs.declared.grammar.CodeDef.{CodeDef}
use Rattle.page_parts.specs.Amounts.{amount}
use Rattle.page_parts.specs.Elements.{Element, each_from, marks, given, number, bar, caption, figure, places}
use Rattle.page_parts.specs.Names.{shortened}
use Rattle.page_parts.specs.Paints.{paint_of}
use Rattle.page_parts.specs.Axes.{left_of, middle_of, chart_width, top_of}
use Rattle.page_parts.specs.declared.sheet.PeriodAxis.{PeriodAxis}
use Rattle.page_parts.specs.declared.money.Money.{Money}
use Rattle.page_text.specs.declared.row.Row.{Row}
use Rattle.model_shift_figures.specs.Stretches.{is_off}

-- the bar of a letter of a row, at the period behind so many
unfoldable pub letter_bar : PeriodAxis → List CodeDef → ℕ → ℕ → ℕ → List Element
letter_bar s cs row place byte =
    bar (paint_of cs byte)
    (record { left = left_of s place; top = top_of row; width = s.cell - 1; height = 22 }) ∷ []

-- the letter itself, but for time off
unfoldable pub letter_text : PeriodAxis → List CodeDef → Option ℕ → ℕ → ℕ → ℕ → List Element
letter_text s cs off row place byte =
    if is_off off byte then []
    else caption (paint_of cs byte) (middle_of s place) (top_of row + 15) (byte ∷ []) ∷ []

-- a letter in its bar
abbrev pub letter : PeriodAxis → List CodeDef → Option ℕ → ℕ → ℕ → ℕ → List Element
letter s cs off row place byte = letter_bar s cs row place byte ++ letter_text s cs off row place byte

-- the same, where the word has a letter there
unfoldable pub cell : PeriodAxis → List CodeDef → Option ℕ → ℕ → List ℕ → ℕ → List Element
cell s cs off row word place =
    elim (slice_get word place) [ None ↦ [] | Some byte ↦ letter s cs off row place byte ]

-- a line under a letter that differs from an old roster
unfoldable pub change_line : PeriodAxis → ℕ → ℕ → List Element
change_line s row place =
    marks (codes "<path class='changed' d='M") ∷ number (left_of s place) ∷ marks (codes " ")
    ∷ number (top_of row + 23) ∷ marks (codes "H") ∷ number (left_of s place + (s.cell - 1))
    ∷ marks (codes "'/>") ∷ []

-- the same, where the letter differs
unfoldable pub change_if : PeriodAxis → ℕ → ℕ → Bool → List Element
change_if s row place differs = if differs then change_line s row place else []

unfoldable pub change_at : PeriodAxis → ℕ → List Bool → ℕ → List Element
change_at s row differs place =
    elim (slice_get differs place) [ None ↦ [] | Some it ↦ change_if s row place it ]

-- what stands at a period of a row
abbrev pub marked_cell : PeriodAxis → List CodeDef → Option ℕ → ℕ → Row → ℕ → List Element
marked_cell s cs off k r place = cell s cs off k r.word place ++ change_at s k r.differs place

-- the letters of a word, each at its period, and lines under those that differ
abbrev pub cells : PeriodAxis → List CodeDef → Option ℕ → ℕ → Row → List Element
cells s cs off k r = flat_map (marked_cell s cs off k r) (places s.periods)

-- beside a row how many employees have its shift
unfoldable pub times_of : ℕ → ℕ → List Element
times_of row count =
    marks (codes "<text class='times' x='40' y='") ∷ number (top_of row + 15) ∷ marks (codes "'>")
    ∷ number count ∷ marks (codes "&#215;</text>") ∷ []

-- beside a row the number of the shift, or, where several employees have it, how many
unfoldable pub times : ℕ → ℕ → ℕ → List Element
times row shift count =
    if nat_lt 1 count then times_of row count
    else figure (codes "times") 40 (top_of row + 15) shift ∷ []

-- of how many shifts a row is
unfoldable pub many : ℕ → List Element
many count = number count ∷ marks (codes " shifts: ") ∷ []

-- of which shift a row is
unfoldable pub one : ℕ → List Element
one shift = marks (codes "Shift ") ∷ number shift ∷ marks (codes ": ") ∷ []

-- whose shift it is: the one of a number, or of several employees
unfoldable pub who : ℕ → ℕ → List Element
who shift count = if nat_lt 1 count then many count else one shift

-- what stands between the name of a group and a word
abbrev pub gap : List ℕ → List ℕ
gap [] = []
gap (x ∷ xs) = codes " "

-- a row in words, where amounts are counted in these words
unfoldable pub row_words : Money → Row → List Element
row_words m r =
    who r.number r.count ++ given r.name ∷ given (gap r.name) ∷ given r.word
    ∷ marks (codes ", price ") ∷ amount m r.price

unfoldable pub row_head : Money → ℕ → Row → List Element
row_head m k r =
    (marks (codes "<g class='row' tabindex='0' role='img' id='r") ∷ number k
    ∷ marks (codes "' aria-describedby='d") ∷ number k
    ∷ marks (codes "' aria-label='") ∷ [])
    ++ (row_words m r ++ marks (codes "'>") ∷ [])

-- the price of a row
unfoldable pub price_text : Money → PeriodAxis → ℕ → ℕ → List Element
price_text m s k price =
    marks (codes "<text class='price' x='") ∷ number (chart_width s - 14) ∷ marks (codes "' y='")
    ∷ number (top_of k + 15) ∷ marks (codes "'>") ∷ amount m price ++ marks (codes "</text>") ∷ []

unfoldable pub row_frame : Money → PeriodAxis → ℕ → Row → List Element
row_frame m s k r =
    bar (codes "hit") (record { left = 4; top = top_of k - 2; width = chart_width s - 8; height = 26 })
    ∷ caption (codes "name") (s.left - 10) (top_of k + 15) (shortened r.name)
    ∷ price_text m s k r.price

unfoldable pub row_elements : Money → PeriodAxis → List CodeDef → Option ℕ → ℕ → Row → List Element
row_elements m s cs off k r =
    row_head m k r ++ (row_frame m s k r
    ++ (times k r.number r.count ++ (cells s cs off k r ++ marks (codes "</g>\n") ∷ [])))

-- every how many periods the axis has a number
abbrev pub step_of : ℕ → ℕ
step_of periods = if nat_lt periods 25 then 1 else (if nat_lt periods 49 then 2 else 4)

-- the number of a period over its middle
unfoldable pub number_tick : PeriodAxis → ℕ → ℕ → List Element
number_tick s top place =
    if nat_eq (place % step_of s.periods) 0 then figure (codes "tick") (middle_of s place) top (place + 1)
    ∷ [] else []

-- a time where the period behind so many begins
unfoldable pub time_at : PeriodAxis → ℕ → ℕ → List ℕ → List Element
time_at s top place text =
    if nat_lt 0 (length text) then caption (codes "tick") (left_of s place) top text ∷ [] else []

-- the same, where there is a time for it
unfoldable pub time_tick : PeriodAxis → ℕ → List (List ℕ) → ℕ → List Element
time_tick s top moments place =
    elim (slice_get moments place) [ None ↦ [] | Some text ↦ time_at s top place text ]

-- the time of a period, or, where there are no times, its number
unfoldable pub tick : PeriodAxis → ℕ → List (List ℕ) → ℕ → List Element
tick s top moments place =
    if nat_lt 0 (length moments) then time_tick s top moments place else number_tick s top place

abbrev pub all_ticks : PeriodAxis → ℕ → List (List ℕ) → List Element
all_ticks s top moments = flat_map (tick s top moments) (places s.periods)

-- the same, and behind the last period its end, where there is a time for it
abbrev pub ticks : PeriodAxis → ℕ → List (List ℕ) → List Element
ticks s top moments = all_ticks s top moments ++ time_tick s top moments s.periods

abbrev pub rows_elements : Money → PeriodAxis → List CodeDef → Option ℕ → List Row → List Element
rows_elements m s cs off rows = each_from (row_elements m s cs off) 0 rows
