-- The text of an allowed roster that was stated, and how a stated roster covers each demanded code.
use Rattle.std.specs.Prelude.{◌/◌, ℕ, List, [], ◌∷◌, ◌++◌, codes, length, map}
use Rattle.text_lines.specs.Written.{written}
use Rattle.model_rosters.specs.declared.instance.Instance.{Instance}
use Rattle.model_rosters.specs.declared.instance.Shift.{Shift}
use Rattle.check_certificates.specs.RosterCauses.{duties}
use Rattle.text_certificates.specs.Written.{shift_line}
use Rattle.text_reports.specs.declared.cover.Cover.{Cover}
use Rattle.text_reports.specs.Reports.{cell_cover}
use Rattle.text_reports.specs.ReportText.{header_line, number_line, cover_lines}
use Rattle.check_values.specs.declared.valued.Valued.{Valued}

-- how the shifts cover each cell, whether or not their words are shifts
abbrev pub covers_of : Instance → List Shift → List Cover
covers_of i shifts = map (cell_cover i.grammar (duties shifts)) i.cells

-- the four lines of each demanded code
abbrev pub covered_lines : Instance → List Shift → List (List (List ℕ))
covered_lines i shifts = cover_lines i 0 (length (covers_of i shifts) / i.grammar.periods) (covers_of i shifts)

abbrev pub stated_line : List (List ℕ)
stated_line = codes "result" ∷ codes "stated" ∷ []

-- what comes before the shifts
abbrev pub head_lines : Instance → Valued → List (List (List ℕ))
head_lines i v = header_line i.groups ∷ stated_line ∷ number_line (codes "cost") v.cost ∷ []

-- the shifts in their order, what they cost, and how they cover the demanded codes
abbrev pub roster_lines : Instance → Valued → List (List (List ℕ))
roster_lines i v =
    number_line (codes "shifts") (length v.shifts)
    ∷ (map (shift_line i) v.shifts
    ++ (number_line (codes "paid") v.paid ∷ number_line (codes "penalty") v.penalty
    ∷ covered_lines i v.shifts))

-- the lines of a report, without those of a search
abbrev pub value_text : Instance → Valued → List ℕ
value_text i v = written (head_lines i v ++ roster_lines i v)
