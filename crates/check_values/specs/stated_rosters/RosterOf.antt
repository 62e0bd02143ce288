-- The shifts that a roster text says, or its first fault.
use Rattle.std.specs.Prelude.{ℕ, ◌≡◌, ◌≤◌, Bool, true, false, ◌||◌, codes, nat_lt, length, List, [], ◌∷◌, if◌then◌else◌, Result, Ok, Err}
use Rattle.std.specs.Str.{bytes_eq}
use Rattle.model_rosters.specs.declared.instance.Instance.{Instance}
use Rattle.model_rosters.specs.declared.instance.Shift.{Shift}
use Rattle.model_rosters.specs.Folds.{Each}
use Rattle.check_certificates.specs.Sound.{IsSoundShift}
use Rattle.text_lines.specs.Lines.{TextLine, text_items}
use Rattle.text_lines.specs.Refusals as refusals
use Rattle.text_lines.specs.declared.line.BadByte as bad
use Rattle.text_proof_pieces.specs.ShiftLines.{is_pair}
use Rattle.check_values.specs.declared.stated_rosters.fault.RosterFault.{RosterFault}
use Rattle.check_values.specs.declared.stated_rosters.fault.RosterFault.TheVariants.{BadByte, UnknownLine, NoRoster, TooLong}
use Rattle.check_values.specs.stated_rosters.FaultLine.{line_of}
use Rattle.check_values.specs.stated_rosters.ShiftLines.{shift_at}
use Rattle.check_values.specs.stated_rosters.Steps.{each}

-- the first line of a report
abbrev pub is_report : List (List ℕ) → Bool
is_report ws = is_pair (codes "report") (codes "1") ws || is_pair (codes "report") (codes "2") ws

-- a line that is none of a shift: a report's is passed over, save the one that tells that there is no roster
unfoldable pub other_at : ℕ → Bool → List Shift → List (List ℕ) → Result (List Shift) RosterFault
other_at k false shifts ws = Err (UnknownLine k)
other_at k true shifts ws = if is_pair (codes "cost") (codes "none") ws then Err (NoRoster k) else Ok shifts

-- a line of a report, or of a list of shifts, by its first word
unfoldable pub line_at : ℕ → Instance → Bool → List Shift → List (List ℕ) → Result (List Shift) RosterFault
line_at k i report shifts [] = Err (UnknownLine k)
line_at k i report shifts (w ∷ ws) =
    if bytes_eq w (codes "shift") then shift_at k i shifts ws else other_at k report shifts (w ∷ ws)

-- a line, whose bad byte comes before its other faults
abbrev pub item_at : Instance → Bool → List Shift → Result TextLine bad.BadByte → Result (List Shift) RosterFault
item_at i report shifts (Ok line) = line_at line.number i report shifts line.words
item_at i report shifts (Err b) = Err (BadByte b.line)

-- whether the first line is that of a report
abbrev pub begins_report : List (Result TextLine bad.BadByte) → Bool
begins_report [] = false
begins_report (Ok line ∷ items) = is_report line.words
begins_report (Err b ∷ items) = false

-- what all lines say, one after another; the first line of a report is passed over like others of it
abbrev pub shifts_of : Instance → List (Result TextLine bad.BadByte) → Result (List Shift) RosterFault
shifts_of i items = each (item_at i (begins_report items)) [] items

-- the shifts that a text says for an instance, or the text's first fault
unfoldable pub roster_of : Instance → List ℕ → Result (List Shift) RosterFault
roster_of i text = if nat_lt 1048576 (length text) then Err TooLong else shifts_of i (text_items text)

-- at most 64 shifts of the day's groups, without prices
pub record IsSoundRoster (i : Instance) (shifts : List Shift) : Type 0 where
  pub few : length shifts ≤ 64
  pub each : Each (IsSoundShift i) shifts
  pub free : Each (λ (s : Shift). s.price ≡ 0) shifts

-- a line that cannot stand after the lines before it, which stand; the fault carries its number
abbrev pub IsFirstRefused : Instance → List ℕ → RosterFault → Type 0
IsFirstRefused i text e =
    refusals.IsFirstRefused (item_at i (begins_report (text_items text))) line_of [] (text_items text) e
