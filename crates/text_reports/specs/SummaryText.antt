-- The text of a summary.
use Rattle.std.specs.Prelude.{ℕ, List, [], ◌∷◌, ◌++◌, codes}
use Rattle.text_lines.specs.Written.{written}
use Rattle.text_certificates.specs.Written.{amount_words}
use Rattle.text_reports.specs.declared.summary.Summary.{Summary}
use Rattle.text_reports.specs.ReportText.{result_line, number_line}

-- what a summary says of its day
abbrev pub day_lines : Summary → List (List (List ℕ))
day_lines s =
    number_line (codes "make") s.number ∷ number_line (codes "periods") s.periods
    ∷ number_line (codes "arcs") s.arcs ∷ []

-- what a summary says of the search
abbrev pub search_lines : Summary → List (List (List ℕ))
search_lines s =
    result_line s.done ∷ amount_words (codes "cost") s.cost ∷ amount_words (codes "bound") s.bound
    ∷ number_line (codes "processed") s.processed ∷ number_line (codes "failed") s.failed ∷ []

-- the text of a summary: one space between words, and a line feed after each line
abbrev pub summary_text : Summary → List ℕ
summary_text s = written (day_lines s ++ search_lines s)
