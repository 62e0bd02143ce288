-- The one line that tells a fault.
use Rattle.std.specs.Prelude.{ℕ, List, [], ◌∷◌, ◌++◌, Option, Some, None, codes}
use Rattle.text_lines.specs.Places.{place_text}
use Rattle.page_labels.specs.declared.fault.LabelFault.{LabelFault}
use Rattle.page_labels.specs.declared.fault.LabelFault.TheVariants.{BadByte, UnknownLine, BadNumber, OutOfRange, UnknownCode, NoName, BadName, Twice, AnotherShift, NoShift, TooLong, Memory}

-- the line that a fault carries
abbrev pub line_of : LabelFault → Option ℕ
line_of (BadByte k) = Some k
line_of (UnknownLine k) = Some k
line_of (BadNumber k) = Some k
line_of (OutOfRange k) = Some k
line_of (UnknownCode k) = Some k
line_of (NoName k) = Some k
line_of (BadName k) = Some k
line_of (Twice k) = Some k
line_of (AnotherShift k) = Some k
line_of (NoShift k) = Some k
line_of TooLong = None
line_of Memory = None

-- the text of a fault
unfoldable pub fault_text : LabelFault → List ℕ
fault_text (BadByte k) = codes "bad byte"
fault_text (UnknownLine k) = codes "unknown line"
fault_text (BadNumber k) = codes "bad number"
fault_text (OutOfRange k) = codes "out of range"
fault_text (UnknownCode k) = codes "unknown code"
fault_text (NoName k) = codes "no such name"
fault_text (BadName k) = codes "bad name"
fault_text (Twice k) = codes "said twice"
fault_text (AnotherShift k) = codes "another shift"
fault_text (NoShift k) = codes "no such shift"
fault_text TooLong = codes "the text is too long"
fault_text Memory = codes "out of memory"

-- the fault, after the word `labels` and its line
abbrev pub fault_line : LabelFault → List ℕ
fault_line e = codes "labels: " ++ place_text (line_of e) ++ fault_text e ++ 10 ∷ []
