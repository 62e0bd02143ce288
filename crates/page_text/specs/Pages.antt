-- The page.
use Rattle.std.specs.Prelude.{ℕ, Bool, ◌+◌, ◌-◌, ◌*◌, None, Some, List, [], ◌∷◌, ◌++◌, length, nat_eq, nat_lt, slice_get, codes, if◌then◌else◌}
use Rattle.std.specs.List.{flat_map}
use Rattle.model_rosters.specs.declared.grammar.CodeDef.{CodeDef}
use Rattle.page_parts.specs.Elements.{Element, each_from, marks, given, number, units, caption, places}
use Rattle.page_parts.specs.Axes.{chart_width, axis_of}
use Rattle.page_parts.specs.declared.sheet.PeriodAxis.{PeriodAxis}
use Rattle.page_parts.specs.declared.money.Money.{Money}
use Rattle.page_text.specs.Changes.{changes_part}
use Rattle.page_text.specs.Costs.{chip, costs, is_demanded, sentence}
use Rattle.page_text.specs.declared.column.CellCover.{CellCover}
use Rattle.page_text.specs.Charts.{frame, in_words, inked, lines, top_count, unit_of}
use Rattle.page_text.specs.Inputs.{longest}
use Rattle.page_text.specs.declared.ink.Ink.TheVariants.{Bars}
use Rattle.page_text.specs.RosterChart.{row_words, rows_elements, ticks}
use Rattle.page_text.specs.Style.{style}
use Rattle.page_text.specs.declared.content.Content.{Content}
use Rattle.page_text.specs.declared.content.ReadText.{ReadText}
use Rattle.page_tables.specs.Tables.{page_tables}
use Rattle.page_text.specs.declared.row.Row.{Row}

-- the size of a chart, in which it is drawn
unfoldable pub size : ℕ → ℕ → List Element
size width height =
    marks (codes "' viewBox='0 0 ") ∷ number width ∷ marks (codes " ") ∷ number height
    ∷ marks (codes "' width='") ∷ number width
    ∷ marks (codes "' height='") ∷ number height ∷ marks (codes "'>\n") ∷ []

-- what a code of the legend means
unfoldable pub work_word : Bool → List ℕ
work_word work = if work then codes "work</li>" else codes "no work</li>"

-- what the code at a place is called, or nothing
abbrev pub words_at : List (List ℕ) → ℕ → List ℕ
words_at words k = elim (slice_get words k) [ None ↦ [] | Some text ↦ text ]

unfoldable pub legend_item : List CodeDef → List (List ℕ) → ℕ → CodeDef → List Element
legend_item cs words k c =
    marks (codes "<li>") ∷ chip cs c.byte
    ++ marks (codes "<span>") ∷ given (words_at words k) ∷ marks (codes "</span>") ∷ marks (work_word c.work) ∷ []

abbrev pub legend : List CodeDef → List (List ℕ) → List Element
legend cs words = each_from (legend_item cs words) 0 cs

-- the word over the prices
unfoldable pub price_head : PeriodAxis → List Element
price_head s = caption (codes "mark") (chart_width s - 14) 20 (codes "price") ∷ []

-- how high the chart of so many rows is
unfoldable pub height_of : ℕ → ℕ
height_of rows = 40 + 26 * rows

-- the chart of the shifts
unfoldable pub shifts : PeriodAxis → List CodeDef → Content → List Element
shifts s cs c =
    marks (codes "<section><h2>Shifts</h2>\n<ul class='legend'>") ∷ legend cs c.words
    ++ (marks (codes "</ul>\n<div class='scroll'><svg class='roster' role='group' aria-label='Shifts of the roster, one row a shift")
    ∷ size (chart_width s) (height_of (length c.rows))
    ++ (price_head s ++ (ticks s 20 c.times ++ (rows_elements c.money s cs c.off c.rows
    ++ marks (codes "</svg></div>\n<p class='hint'>Point at a shift, or go to it with the Tab key, and see how the rules derive it.</p></section>\n") ∷ []))))

-- the chart of a code's coverage
unfoldable pub chart_head : List CodeDef → PeriodAxis → List (List ℕ) → List CellCover → ℕ → CodeDef → List Element
chart_head cs s words columns place c =
    (marks (codes "<figure><figcaption>") ∷ chip cs c.byte)
    ++ (marks (codes " ") ∷ given (words_at words place)
    ∷ marks (codes "</figcaption><div class='scroll'><svg role='img' aria-label='Coverage of ") ∷ given (c.byte ∷ [])
    ∷ marks (codes ". ")
    ∷ (in_words s place columns ++ size (chart_width s) 132))

unfoldable pub chart_body : PeriodAxis → List (List ℕ) → List CellCover → ℕ → ℕ → ℕ → List Element
chart_body s moments columns place top unit =
    inked Bars s unit place columns
    ++ (frame s unit top
    ++ (lines s unit place columns ++ (ticks s 127 moments ++ marks (codes "</svg></div></figure>\n") ∷ [])))

unfoldable pub chart : List CodeDef → PeriodAxis → Content → ℕ → CodeDef → List Element
chart cs s t place c =
    if is_demanded place t.columns then chart_head cs s t.words t.columns place c
    ++ chart_body s t.times t.columns place (top_count place t.columns 1) (unit_of (top_count place t.columns 1)) else []

abbrev pub charts : List CodeDef → PeriodAxis → Content → List Element
charts cs s t = each_from (chart cs s t) 0 cs

unfoldable pub chart_legend : List ℕ
chart_legend =
    codes "<section><h2>Coverage</h2>\n<ul class='legend'><li><span class='key have'></span>at work and needed</li><li><span class='key short'></span>short</li>"
    ++ codes "<li><span class='key over'></span>surplus</li><li><span class='key need'></span>need</li><li><span class='key floor'></span>floor</li>"
    ++ codes "<li><span class='key ceiling'></span>ceiling</li></ul>\n<div class='charts'>\n"

unfoldable pub coverage : List CodeDef → PeriodAxis → Content → List Element
coverage cs s t = marks chart_legend ∷ (charts cs s t ++ marks (codes "</div></section>\n") ∷ [])

-- what shows the derivation of a shift that is pointed at
unfoldable pub shows : ℕ → List Element
shows k =
    marks (codes "body:has(#r") ∷ number k ∷ marks (codes ":hover) #d") ∷ number k
    ∷ marks (codes "{display:block;z-index:2}body:has(#r")
    ∷ number k ∷ marks (codes ":focus) #d") ∷ number k ∷ marks (codes "{display:block}\n") ∷ []

abbrev pub all_show : List (List ℕ) → List Element
all_show texts = flat_map shows (places (length texts))

-- the words of the row at a place, if there is one
unfoldable pub heading : Money → List Row → ℕ → List Element
heading m rows k = elim (slice_get rows k) [ None ↦ [] | Some r ↦ row_words m r ]

-- what stands behind the first line of a text
abbrev pub behind_line : List ℕ → List ℕ
behind_line [] = []
behind_line (b ∷ bs) = if nat_eq b 10 then bs else behind_line bs

-- the word and the price of a row, as lines of a derivation
unfoldable pub word_lines : Money → Row → List Element
word_lines m r =
    marks (codes "word ") ∷ given r.word ∷ marks (codes "\ncost ") ∷ units m.decimals r.price
    ∷ marks (codes "\n") ∷ []

-- the same of the row at a place, if there is one
unfoldable pub lines_at : Money → List Row → ℕ → List Element
lines_at m rows k = elim (slice_get rows k) [ None ↦ [] | Some r ↦ word_lines m r ]

-- the derivation of a row, under the row's words: the word, its price as an amount, and the lines of the text
-- behind those two
unfoldable pub derivation : Money → List Row → ℕ → List ℕ → List Element
derivation m rows k text =
    (marks (codes "<pre class='derivation' id='d") ∷ number k ∷ marks (codes "'><b>") ∷ [])
    ++ (heading m rows k ++ (marks (codes "</b>\n") ∷ (lines_at m rows k
    ++ given (behind_line (behind_line text)) ∷ marks (codes "</pre>\n") ∷ [])))

abbrev pub derivations : Money → List Row → List (List ℕ) → List Element
derivations m rows texts = each_from (derivation m rows) 0 texts

-- the derivations under their title
unfoldable pub titled_derivations : Money → List Row → List (List ℕ) → List Element
titled_derivations m rows texts =
    marks (codes "<div class='derivations'><h2>How the rules derive each shift</h2>\n")
    ∷ (derivations m rows texts ++ marks (codes "</div>\n") ∷ [])

-- the same, where there are any derivations
unfoldable pub derivations_part : Money → List Row → List (List ℕ) → List Element
derivations_part m rows texts = if nat_lt 0 (length texts) then titled_derivations m rows texts else []

unfoldable pub before_title : List ℕ
before_title =
    codes "<!DOCTYPE html>\n<html lang='en'>\n<head>\n<meta charset='utf-8'>\n"
    ++ codes "<meta name='viewport' content='width=device-width, initial-scale=1'>\n<title>"

-- the title of the day, or `Roster`
unfoldable pub title_of : List ℕ → List ℕ
title_of title = if nat_lt 0 (length title) then title else codes "Roster"

unfoldable pub head : List ℕ → List (List ℕ) → List Element
head title texts =
    marks before_title ∷ given (title_of title) ∷ marks (codes "</title>\n<style>\n") ∷ marks style ∷
    (all_show texts ++ marks (codes "</style>\n</head>\n<body>\n<main>\n<header><h1>") ∷ given (title_of title)
    ∷ marks (codes "</h1><p>") ∷ [])

unfoldable pub top_part : List CodeDef → Content → List Element
top_part cs c =
    head c.title c.derivations ++ (sentence c.money c.figures.cost c.figures.bound
    ++ (marks (codes "</p></header>\n") ∷ (costs c.money cs c.figures c.columns ++ changes_part c.changes)))

unfoldable pub shifts_part : PeriodAxis → List CodeDef → Content → List Element
shifts_part s cs c = if nat_lt 0 (length c.rows) then shifts s cs c else []

unfoldable pub coverage_part : PeriodAxis → List CodeDef → Content → List Element
coverage_part s cs t = if nat_lt 0 (length t.columns) then coverage cs s t else []

-- the command that checks what the page says: of a proof, or of a report
unfoldable pub check_command : Bool → List ℕ
check_command stated = if stated then codes "value RULES DEMAND REPORT" else codes "check RULES DEMAND PROOF"

-- a text that was read, as `sha256sum` says it
unfoldable pub read_line : ReadText → List Element
read_line r = given r.sum ∷ marks (codes "  ") ∷ given r.name ∷ marks (codes "\n") ∷ []

abbrev pub read_lines : List ReadText → List Element
read_lines rs = flat_map read_line rs

-- the foot of the page
unfoldable pub foot : Bool → List ReadText → List Element
foot stated rs =
    marks (codes "<footer><p>Made from these texts; <code>roster ") ∷ marks (check_command stated)
    ∷ marks (codes "</code> checks them.</p>\n<pre>")
    ∷ (read_lines rs ++ marks (codes "</pre></footer>\n") ∷ [])

-- the same, where it is said which texts were read
unfoldable pub foot_part : Bool → List ReadText → List Element
foot_part stated rs = if nat_lt 0 (length rs) then foot stated rs else []

unfoldable pub body : PeriodAxis → List CodeDef → Content → List Element
body s cs c =
    top_part cs c ++ (shifts_part s cs c ++ (coverage_part s cs c
    ++ (page_tables c.money c.tables ++ (derivations_part c.money c.rows c.derivations
    ++ (foot_part c.stated c.read ++ marks (codes "</main>\n</body>\n</html>\n") ∷ [])))))

-- the elements of the page, in order
abbrev pub page : ℕ → List CodeDef → Content → List Element
page periods cs c = body (axis_of periods (longest c.rows 0) (length c.money.words)) cs c
