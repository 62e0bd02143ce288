-- The lines of shifts and of covers, read one after another.
use Rattle.std.proofs.Common.{◌≡◌, ℕ, zero, suc, ◌+◌, ◌*◌, ◌/◌, ◌<◌, ◌≤◌, List, [], ◌∷◌, ◌++◌, length, Result, Ok, Err, refl, ◌∙◌, arith}
use Rattle.model_rosters.specs.declared.instance.Instance.{Instance}
use Rattle.model_rosters.specs.declared.instance.Shift.{Shift}
use Rattle.model_rosters.specs.SoundInstance.{IsSoundInstance}
use Rattle.text_proof_pieces.specs.PriceLines.{due_byte}
use Rattle.text_reports.specs.declared.cover.Cover.{Cover}
use Rattle.text_reports.specs.declared.fault.ReportFault.{ReportFault}
use Rattle.text_reports.specs.LineWords.{shift_said}
use Rattle.text_reports.specs.Readings.{Items, line_next}
use Rattle.text_reports.specs.ReportReading.{shifts_reading, code_reading, covers_reading}
use Rattle.text_reports.proofs.WholeForms.{code_count, cells_made}

module _ (i : Instance) (ss : List Shift) (n m : ℕ) (lines : Items) where
  pub shift_read : (s : Shift) (rest : Items) → n ≡ suc m → line_next (shift_said i.grammar.names i.groups) lines ≡ Ok (s, rest) → shifts_reading i ss n lines ≡ shifts_reading i (ss ++ s ∷ []) m rest
  shift_read s rest e h = rw (e, h) refl

  pub shift_refused : (f : ReportFault) → n ≡ suc m → line_next (shift_said i.grammar.names i.groups) lines ≡ Err f → shifts_reading i ss n lines ≡ Err f
  shift_refused f e h = rw (e, h) refl

-- what is read is what the codes that are left say
pub record CoversDue (i : Instance) (whole : Result (List Cover × Items) ReportFault) (cs : List Cover) (place : ℕ) (lines : Items) : Type 0 where
  pub codes : ℕ
  pub left : place + codes * i.grammar.periods ≡ length i.cells
  pub same : whole ≡ covers_reading i cs place codes lines

pub covers_due : (i : Instance) (cs : List Cover) (lines : Items) → IsSoundInstance i → CoversDue i (covers_reading i cs 0 (length i.cells / i.grammar.periods) lines) cs 0 lines
covers_due i cs lines s = record { codes = code_count i; left = omega (arith, cells_made i s); same = refl }

pub code_read : (i : Instance) (whole : Result (List Cover × Items) ReportFault) (cs ds : List Cover) (place : ℕ) (lines rest : Items) → place < length i.cells
    → code_reading cs (due_byte i place) i.grammar.periods lines ≡ Ok (ds, rest) → CoversDue i whole cs place lines → CoversDue i whole ds (place + i.grammar.periods) rest
code_read i whole cs ds place lines rest lt h d = by d.codes d.left d.same
  where
    by : (k : ℕ) → place + k * i.grammar.periods ≡ length i.cells → whole ≡ covers_reading i cs place k lines → CoversDue i whole ds (place + i.grammar.periods) rest
    by zero e s = absurd (omega (arith, e, lt))
    by (suc k) e s = record { codes = k; left = omega (arith, e); same = s ∙ (rw h refl) }

pub code_refused : (i : Instance) (whole : Result (List Cover × Items) ReportFault) (cs : List Cover) (place : ℕ) (lines : Items) (f : ReportFault) → place < length i.cells
    → code_reading cs (due_byte i place) i.grammar.periods lines ≡ Err f → CoversDue i whole cs place lines → whole ≡ Err f
code_refused i whole cs place lines f lt h d = by d.codes d.left d.same
  where
    by : (k : ℕ) → place + k * i.grammar.periods ≡ length i.cells → whole ≡ covers_reading i cs place k lines → whole ≡ Err f
    by zero e s = absurd (omega (arith, e, lt))
    by (suc k) e s = s ∙ (rw h refl)

pub covers_read : (i : Instance) (whole : Result (List Cover × Items) ReportFault) (cs : List Cover) (place : ℕ) (lines : Items) → IsSoundInstance i → length i.cells ≤ place → CoversDue i whole cs place lines → whole ≡ Ok (cs, lines)
covers_read i whole cs place lines sound ge d = by d.codes d.left d.same
  where
    by : (k : ℕ) → place + k * i.grammar.periods ≡ length i.cells → whole ≡ covers_reading i cs place k lines → whole ≡ Ok (cs, lines)
    by zero e s = s
    by (suc k) e s = absurd (omega (arith, e, ge, sound.grammar.some_period))

-- the place of the next code is within the cells
pub next_within : (i : Instance) (whole : Result (List Cover × Items) ReportFault) (cs : List Cover) (place : ℕ) (lines : Items) → place < length i.cells → CoversDue i whole cs place lines → place + i.grammar.periods ≤ length i.cells
next_within i whole cs place lines lt d = by d.codes d.left
  where
    by : (k : ℕ) → place + k * i.grammar.periods ≡ length i.cells → place + i.grammar.periods ≤ length i.cells
    by zero e = absurd (omega (arith, e, lt))
    by (suc k) e = omega (arith, e)
