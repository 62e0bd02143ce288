-- The shifts that an old text says for a day, or why it says none.
use Rattle.std.specs.Prelude.{ℕ, ◌&&◌, ◌||◌, Bool, false, codes, nat_lt, length, List, [], ◌∷◌, Option, Some, None, if◌then◌else◌, Result, Ok, Err}
use Rattle.std.specs.Str.{bytes_eq}
use Rattle.model_rosters.specs.declared.instance.Instance.{Instance}
use Rattle.text_lines.specs.Lines.{TextLine, text_items}
use Rattle.text_lines.specs.declared.line.BadByte as bad
use Rattle.text_proof_pieces.specs.Items.{Items}
use Rattle.text_proof_pieces.specs.ShiftLines.{is_pair}
use Rattle.text_old_shifts.specs.Header.{header_of}
use Rattle.text_old_shifts.specs.ShiftLines.{added, shift_words}
use Rattle.text_old_shifts.specs.Steps.{◌>>=◌}
use Rattle.text_old_shifts.specs.declared.fault.OldFault.{OldFault}
use Rattle.text_old_shifts.specs.declared.fault.OldFault.TheVariants.{BadByte, BadHeader, NoRoster, CutShort, TooLong}
use Rattle.text_old_shifts.specs.declared.header.Header.{Header}
use Rattle.text_old_shifts.specs.declared.said.SaidShifts.{SaidShifts}

-- the line of a node, by its first word
abbrev pub is_node : List (List ℕ) → Bool
is_node [] = false
is_node (w ∷ ws) =
    bytes_eq w (codes "split") || bytes_eq w (codes "priced") || bytes_eq w (codes "pinned")
    || bytes_eq w (codes "bare")

-- a line that is none of a shift is passed over, save the one of a report that tells that there is no roster
unfoldable pub other_at : ℕ → Header → SaidShifts → List (List ℕ) → Result SaidShifts OldFault
other_at k h s ws = if h.report && is_pair (codes "cost") (codes "none") ws then Err (NoRoster k) else Ok s

-- a line, by its first word
unfoldable pub line_at : ℕ → Instance → Header → SaidShifts → List (List ℕ) → Result SaidShifts OldFault
line_at k i h s [] = Ok s
line_at k i h s (w ∷ ws) =
    if bytes_eq w (codes "shift") then added k i s (shift_words h.named ws) else other_at k h s (w ∷ ws)

-- the lines behind the first, up to that of the first node
abbrev pub shifts_from : Instance → Header → SaidShifts → Items → Result SaidShifts OldFault
shifts_from i h s [] = Ok s
shifts_from i h s (Err b ∷ items) = Err (BadByte b.line)
shifts_from i h s (Ok line ∷ items) =
    if is_node line.words then Ok s
    else (line_at line.number i h s line.words >>= λ t. shifts_from i h t items)

-- no line of a shift
abbrev pub no_shifts : SaidShifts
no_shifts = record { shifts = []; passed = 0 }

-- the lines behind one of this number, which is the first where it begins an old text
abbrev pub headed : Instance → ℕ → Option Header → Items → Result SaidShifts OldFault
headed i k None items = Err (BadHeader k)
headed i k (Some h) items = shifts_from i h no_shifts items

abbrev pub begun : Instance → Items → Result SaidShifts OldFault
begun i [] = Err CutShort
begun i (Err b ∷ items) = Err (BadByte b.line)
begun i (Ok line ∷ items) = headed i line.number (header_of line.words) items

-- the shifts that a text says for a day, or its first fault
unfoldable pub shifts_of : Instance → List ℕ → Result SaidShifts OldFault
shifts_of i text = if nat_lt 1073741824 (length text) then Err TooLong else begun i (text_items text)
