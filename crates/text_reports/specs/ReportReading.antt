-- How the lines of a report are read.
use Rattle.std.specs.Prelude.{ℕ, zero, suc, ◌+◌, ◌/◌, List, [], ◌∷◌, ◌++◌, length, codes, Option, Some, None, Result}
use Rattle.text_lines.specs.Steps as steps
use Rattle.model_rosters.specs.declared.instance.Group.{Group}
use Rattle.model_rosters.specs.declared.instance.Instance.{Instance}
use Rattle.model_rosters.specs.declared.instance.Shift.{Shift}
use Rattle.text_proof_pieces.specs.PriceLines.{due_byte}
use Rattle.text_reports.specs.declared.cover.Cover.{Cover}
use Rattle.text_reports.specs.declared.fault.ReportFault.{ReportFault}
use Rattle.text_reports.specs.declared.part.Part.TheVariants.{Need, Have, Short, Over}
use Rattle.text_reports.specs.declared.report.Report.{Report}
use Rattle.text_reports.specs.Readings.{Items, Reading, line_next, done, ◌>>=◌, ended}
use Rattle.text_reports.specs.LineWords.{most_amount, most_count, number_said, header_said, done_said, amount_said, shift_said, part_said, covers_of}

-- the lines that each report has
abbrev pub head_reading : List Group → Reading Report
head_reading groups =
    line_next (header_said groups)
    >>= λ _. (line_next done_said
    >>= λ end. (line_next (amount_said (codes "cost"))
    >>= λ cost. (line_next (amount_said (codes "bound"))
    >>= λ bound. (line_next (number_said most_count (codes "processed"))
    >>= λ processed. (line_next (number_said most_count (codes "failed"))
    >>= λ failed. done (record {
      done = end;
      cost = cost;
      bound = bound;
      processed = processed;
      failed = failed;
      shifts = [];
      paid = 0;
      penalty = 0;
      cover = [];
    }))))))

-- so many shifts, behind those before
abbrev pub shifts_reading : Instance → List Shift → ℕ → Reading (List Shift)
shifts_reading i ss zero = done ss
shifts_reading i ss (suc n) =
    line_next (shift_said i.grammar.names i.groups) >>= λ s. shifts_reading i (ss ++ s ∷ []) n

-- the four lines of a code, behind the cells of those before
abbrev pub code_reading : List Cover → ℕ → ℕ → Reading (List Cover)
code_reading cs byte n =
    line_next (part_said Need byte n)
    >>= λ needs. (line_next (part_said Have byte n)
    >>= λ haves. (line_next (part_said Short byte n)
    >>= λ shorts. (line_next (part_said Over byte n)
    >>= λ overs. done (cs ++ covers_of needs haves shorts overs))))

-- the lines of so many codes, whose first cell stands behind so many cells
abbrev pub covers_reading : Instance → List Cover → ℕ → ℕ → Reading (List Cover)
covers_reading i cs place zero = done cs
covers_reading i cs place (suc k) =
    code_reading cs (due_byte i place) i.grammar.periods
    >>= λ ds. covers_reading i ds (place + i.grammar.periods) k

-- the lines of the roster
abbrev pub roster_reading : Instance → Report → Reading Report
roster_reading i r =
    line_next (number_said 64 (codes "shifts"))
    >>= λ count. (shifts_reading i r.shifts count
    >>= λ shifts. (line_next (number_said most_amount (codes "paid"))
    >>= λ paid. (line_next (number_said most_amount (codes "penalty"))
    >>= λ penalty. (covers_reading i r.cover 0 (length i.cells / i.grammar.periods)
    >>= λ cover. done (record r {
      shifts = shifts;
      paid = paid;
      penalty = penalty;
      cover = cover;
    })))))

-- the lines behind the head, where there is a cost
abbrev pub cost_reading : Instance → Report → Option ℕ → Reading Report
cost_reading i r None = done r
cost_reading i r (Some cost) = roster_reading i r

abbrev pub report_reading : Instance → Reading Report
report_reading i = head_reading i.groups >>= λ r. cost_reading i r r.cost

-- the report that lines say, or their first fault
abbrev pub report_of : Instance → Items → Result Report ReportFault
report_of i items = steps.◌>>=◌ (report_reading i items) (λ x. ended x.0 x.1)
