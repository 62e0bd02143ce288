-- The one line that tells a fault.
use Rattle.std.specs.Prelude.{ℕ, ◌*◌, ◌-◌, List, [], ◌∷◌, ◌++◌, codes as text, length, nat_eq, nat_le, Option, None, Some, if◌then◌else◌}
use Rattle.std.specs.Fmt.{decimal}
use Rattle.text_lines.specs.Places.{place_text}
use Rattle.plan_meaning.specs.declared.plan.Plan.{Plan}
use Rattle.plan_meaning.specs.declared.plan.PlanCode.{PlanCode}
use Rattle.plan_words.specs.ClockText.{clock_text}
use Rattle.plan_faults.specs.Phrases.{said}
use Rattle.plan_cells.specs.declared.fault.CellFault.{CellFault}
use Rattle.plan_cells.specs.declared.fault.CellFault.TheVariants as cell
use Rattle.plan_forecast.specs.declared.fault.ForecastFault.{ForecastFault}
use Rattle.plan_forecast.specs.declared.fault.ForecastFault.TheVariants as forecast
use Rattle.plan_forecast.specs.declared.fault.HeadingFault.{HeadingFault}
use Rattle.plan_forecast.specs.declared.fault.HeadingFault.TheVariants as heading
use Rattle.plan_forecast.specs.declared.fault.RowFault.{RowFault}
use Rattle.plan_forecast.specs.declared.fault.RowFault.TheVariants as row
use Rattle.plan_forecast.specs.declared.table.Kind.{Kind}
use Rattle.plan_forecast.specs.Headings.{suffix}

-- the line that a fault carries
abbrev pub line_of : ForecastFault → Option ℕ
line_of (forecast.Cells k e) = Some k
line_of (forecast.Heading k e) = Some k
line_of (forecast.Row k e) = Some k
line_of (forecast.Above code minute least most) = None
line_of forecast.TooLong = None
line_of forecast.NoLine = None
line_of forecast.NoRow = None
line_of forecast.Memory = None

-- words, or that there are none
unfoldable pub quoted : List ℕ → List ℕ
quoted w = if nat_eq (length w) 0 then text "nothing" else w

-- what a column asks
unfoldable pub title_text : ℕ → Kind → List ℕ
title_text code k = (code ∷ []) ++ suffix k

-- the codes of work, each behind a space
abbrev pub work_text : List PlanCode → List ℕ
work_text [] = []
work_text (c ∷ cs) = (if c.work then 32 ∷ c.code ∷ [] else []) ++ work_text cs

-- when the day ends, so many minutes behind the midnight before it
unfoldable pub end_text : ℕ → List ℕ
end_text minute = if nat_le minute 1440 then clock_text minute else clock_text (minute - 1440) ++ text "+1"

unfoldable pub cell_text : CellFault → List ℕ
cell_text cell.NoUtf8 = text "bytes that are no UTF-8; save the text as UTF-8"
cell_text cell.ControlSign = text "a control sign"
cell_text cell.Unclosed = text "a quotation mark that nothing closes"
cell_text (cell.Behind word) = word ++ said (text " right behind a quotation mark")
cell_text cell.Memory = text "out of memory"

unfoldable pub heading_text : Plan → HeadingFault → List ℕ
heading_text p (heading.NoTime word) =
    quoted word ++ said (text " where the word time stands: the first line names the columns")
heading_text p (heading.NoCode title) =
    said (text "column ") ++ (title ++ (said (text ": no code of work; the plan has") ++ work_text p.codes))
heading_text p (heading.NoNeed title code) =
    said (text "column ") ++ (title ++ (said (text ": the plan has no need line of ") ++ code ∷ []))
heading_text p (heading.Twice code k) = said (text "two columns ") ++ title_text code k
heading_text p (heading.Missing code) = said (text "no column ") ++ ((code ∷ []) ++ said (text ", which the plan needs"))

unfoldable pub row_text : RowFault → List ℕ
row_text (row.NoTime word) = quoted word ++ said (text " where a time stands")
row_text (row.First word begin) = word ++ (said (text " in the first row; the day begins at ") ++ clock_text begin)
row_text (row.Steps step minutes) =
    said (text "steps of ") ++ (decimal step ++ (said (text " minutes; the plan's periods have ") ++ decimal minutes))
row_text (row.Behind word end) = word ++ (said (text " is behind the end of the day, ") ++ end_text end)
row_text (row.Other word comes step) =
    word ++ (said (text " where ") ++ (clock_text comes ++ (said (text " comes, by steps of ") ++ (decimal step ++ said (text " minutes")))))
row_text (row.NoNumber minute code k) =
    said (text "no number at ") ++ (clock_text minute ++ (said (text " under ") ++ title_text code k))
row_text (row.NoHeading word) = word ++ said (text " stands under no heading")
row_text (row.NoWhole word) = word ++ said (text " is no whole number")
row_text (row.Outside word) = word ++ said (text " is not 0 to 64")
row_text (row.Count rows step day) =
    decimal rows ++ (said (text " rows of ") ++ (decimal step ++ (said (text " minutes are ")
    ++ (clock_text (rows * step) ++ (said (text " hours; the day has ") ++ clock_text day)))))

-- more must be there of a code than may
abbrev pub above_text : ℕ → ℕ → ℕ → ℕ → List ℕ
above_text code minute least most =
    (code ∷ []) ++ (said (text " at ") ++ (clock_text minute
    ++ (said (text ": least ") ++ (decimal least ++ (said (text " above most ") ++ decimal most)))))

-- the text of a fault
unfoldable pub fault_text : Plan → ForecastFault → List ℕ
fault_text p forecast.TooLong = text "the text is too long"
fault_text p forecast.NoLine = text "no line"
fault_text p forecast.NoRow = text "no row behind the first line"
fault_text p (forecast.Cells k e) = cell_text e
fault_text p (forecast.Heading k e) = heading_text p e
fault_text p (forecast.Row k e) = row_text e
fault_text p (forecast.Above code minute least most) = above_text code minute least most
fault_text p forecast.Memory = text "out of memory"

-- the fault, after the word `forecast` and its line
abbrev pub fault_line : Plan → ForecastFault → List ℕ
fault_line p e = text "forecast: " ++ place_text (line_of e) ++ fault_text p e ++ 10 ∷ []
