-- The one line that tells a fault.
use Rattle.std.specs.Prelude.{ℕ, List, [], ◌∷◌, ◌++◌, Option, Some, None, codes}
use Rattle.text_lines.specs.Places.{place_text}
use Rattle.check_values.specs.declared.stated_rosters.fault.RosterFault.{RosterFault}
use Rattle.check_values.specs.declared.stated_rosters.fault.RosterFault.TheVariants.{BadByte, UnknownLine, BadNumber, OutOfRange, NoName, TooManyShifts, NoRoster, TooLong, Memory}

-- the line that a fault carries
abbrev pub line_of : RosterFault → Option ℕ
line_of (BadByte k) = Some k
line_of (UnknownLine k) = Some k
line_of (BadNumber k) = Some k
line_of (OutOfRange k) = Some k
line_of (NoName k) = Some k
line_of (TooManyShifts k) = Some k
line_of (NoRoster k) = Some k
line_of TooLong = None
line_of Memory = None

-- the text of a fault
unfoldable pub fault_text : RosterFault → List ℕ
fault_text (BadByte k) = codes "bad byte"
fault_text (UnknownLine k) = codes "unknown line"
fault_text (BadNumber k) = codes "bad number"
fault_text (OutOfRange k) = codes "out of range"
fault_text (NoName k) = codes "no such name"
fault_text (TooManyShifts k) = codes "too many shifts, at most 64"
fault_text (NoRoster k) = codes "no roster"
fault_text TooLong = codes "the text is too long"
fault_text Memory = codes "out of memory"

-- the fault, after the word `roster` and its line
abbrev pub fault_line : RosterFault → List ℕ
fault_line e = codes "roster: " ++ place_text (line_of e) ++ fault_text e ++ 10 ∷ []
