-- The text of a report.
use Rattle.std.specs.Prelude.{ℕ, zero, suc, ◌+◌, ◌/◌, Option, None, Some, List, [], ◌∷◌, ◌++◌, map, length, take, drop, codes}
use Rattle.std.specs.Fmt.{decimal}
use Rattle.text_lines.specs.Written.{written}
use Rattle.model_rosters.specs.declared.instance.Done.{Done}
use Rattle.model_rosters.specs.declared.instance.Done.TheVariants.{Equal, NoRoster, TurnsOut}
use Rattle.model_rosters.specs.declared.instance.Group.{Group}
use Rattle.model_rosters.specs.declared.instance.Instance.{Instance}
use Rattle.text_proof_pieces.specs.PriceLines.{due_byte}
use Rattle.text_proof_pieces.specs.ShiftLines.{version}
use Rattle.text_certificates.specs.Written.{amount_words, shift_line}
use Rattle.text_reports.specs.declared.cover.Cover.{Cover}
use Rattle.text_reports.specs.declared.part.Part.{Part}
use Rattle.text_reports.specs.declared.part.Part.TheVariants.{Need, Have, Short, Over}
use Rattle.text_reports.specs.declared.report.Report.{Report}

abbrev pub header_line : List Group → List (List ℕ)
header_line groups = codes "report" ∷ version groups ∷ []

abbrev pub done_word : Done → List ℕ
done_word Equal = codes "optimal"
done_word NoRoster = codes "none"
done_word TurnsOut = codes "turns"

abbrev pub result_line : Done → List (List ℕ)
result_line done = codes "result" ∷ done_word done ∷ []

abbrev pub number_line : List ℕ → ℕ → List (List ℕ)
number_line first n = first ∷ decimal n ∷ []

-- the lines that each report has
abbrev pub head_lines : List Group → Report → List (List (List ℕ))
head_lines groups r =
    header_line groups ∷ result_line r.done ∷ amount_words (codes "cost") r.cost
    ∷ amount_words (codes "bound") r.bound
    ∷ number_line (codes "processed") r.processed ∷ number_line (codes "failed") r.failed ∷ []

abbrev pub part_name : Part → List ℕ
part_name Need = codes "need"
part_name Have = codes "have"
part_name Short = codes "short"
part_name Over = codes "over"

abbrev pub part_of : Part → Cover → ℕ
part_of Need c = c.need
part_of Have c = c.have
part_of Short c = c.short
part_of Over c = c.over

abbrev pub parts_of : Part → List Cover → List (List ℕ)
parts_of part covers = map (λ (c : Cover). decimal (part_of part c)) covers

-- one number of each of a code's cells
abbrev pub part_line : Part → ℕ → List Cover → List (List ℕ)
part_line part byte covers = part_name part ∷ (byte ∷ []) ∷ parts_of part covers

-- the four lines of a code
abbrev pub code_lines : ℕ → List Cover → List (List (List ℕ))
code_lines byte covers =
    part_line Need byte covers ∷ part_line Have byte covers ∷ part_line Short byte covers
    ∷ part_line Over byte covers
    ∷ []

-- the lines of so many codes, whose first cell stands behind so many cells
abbrev pub cover_lines : Instance → ℕ → ℕ → List Cover → List (List (List ℕ))
cover_lines i place zero covers = []
cover_lines i place (suc k) covers =
    code_lines (due_byte i place) (take i.grammar.periods covers)
    ++ cover_lines i (place + i.grammar.periods) k (drop i.grammar.periods covers)

-- the lines of the roster: its shifts, what they cost, and for each demanded code how it is covered
abbrev pub roster_lines : Instance → Report → List (List (List ℕ))
roster_lines i r =
    number_line (codes "shifts") (length r.shifts)
    ∷ (map (shift_line i) r.shifts
    ++ (number_line (codes "paid") r.paid ∷ number_line (codes "penalty") r.penalty
    ∷ cover_lines i 0 (length r.cover / i.grammar.periods) r.cover))

abbrev pub cost_lines : Instance → Report → Option ℕ → List (List (List ℕ))
cost_lines i r None = []
cost_lines i r (Some cost) = roster_lines i r

abbrev pub report_lines : Instance → Report → List (List (List ℕ))
report_lines i r = head_lines i.groups r ++ cost_lines i r r.cost

-- the text of a report: one space between words, and a line feed after each line
abbrev pub report_text : Instance → Report → List ℕ
report_text i r = written (report_lines i r)
