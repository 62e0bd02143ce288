-- The words of a line: codes, names and numbers.
use Rattle.std.specs.Prelude.{ℕ, ◌&&◌, ◌==◌, not, max, length, position, slice_index, List, Option, Some, None, if◌then◌else◌, Result, Ok, Err}
use Rattle.std.specs.Str.{bytes_eq}
use Rattle.text_lines.specs.Fields as fields
use Rattle.model_rosters.specs.declared.grammar.CodeDef.{CodeDef}
use Rattle.text_demand_lines.specs.declared.draft.Heads.{Heads}
use Rattle.text_demand_lines.specs.declared.fault.DemandFault.{DemandFault}
use Rattle.text_demand_lines.specs.declared.fault.DemandFault.TheVariants.{BadNumber, OutOfRange, NotWork, NoName}
use Rattle.text_demand_lines.specs.Steps.{◌>>=◌}

-- the number from low to high that a word of line k says
abbrev pub number_at : ℕ → ℕ → ℕ → List ℕ → Result ℕ DemandFault
number_at k low high w = fields.number_at (BadNumber k) (OutOfRange k) low high w

-- the place that was found, or else this fault
abbrev pub found_or : DemandFault → Option ℕ → Result ℕ DemandFault
found_or e (Some c) = Ok c
found_or e None = Err e

-- the number of a work code, which a word of one byte says
unfoldable pub work_at : ℕ → List CodeDef → List ℕ → Result ℕ DemandFault
work_at k defs w =
    if not (length w == 1) then Err (NotWork k)
    else found_or (NotWork k) (position (λ d. d.work && d.byte == slice_index w 0) defs)

-- the number of a name
unfoldable pub name_at : ℕ → List (List ℕ) → List ℕ → Result ℕ DemandFault
name_at k names w = found_or (NoName k) (position (λ n. bytes_eq n w) names)

-- how many employees may work: at least 0 to 64, and at most 1 up to the limit, and no fewer
unfoldable pub range_at : ℕ → ℕ → List ℕ → List ℕ → Result Heads DemandFault
range_at k limit a b = do
  low ← number_at k 0 64 a
  high ← number_at k (max low 1) limit b
  Ok (record { least = low; most = high })
