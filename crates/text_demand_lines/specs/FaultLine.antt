-- The one line that tells a fault.
use Rattle.std.specs.Prelude.{ℕ, List, [], ◌∷◌, ◌++◌, Option, Some, None, codes}
use Rattle.text_lines.specs.Places.{place_text}
use Rattle.text_demand_lines.specs.declared.fault.DemandFault.{DemandFault}
use Rattle.text_demand_lines.specs.declared.fault.DemandFault.TheVariants.{BadByte, UnknownLine, BadNumber, OutOfRange, NotWork, Twice, WrongCount, NoHeads, TooLong, NoNeed, NoName, Mixed, TooManyGroups, Memory}

-- the line that a fault carries
abbrev pub line_of : DemandFault → Option ℕ
line_of (BadByte k) = Some k
line_of (UnknownLine k) = Some k
line_of (BadNumber k) = Some k
line_of (OutOfRange k) = Some k
line_of (NotWork k) = Some k
line_of (Twice k) = Some k
line_of (WrongCount k found) = Some k
line_of NoHeads = None
line_of TooLong = None
line_of (NoNeed k) = Some k
line_of (NoName k) = Some k
line_of (Mixed k) = Some k
line_of (TooManyGroups k) = Some k
line_of Memory = None

-- the text of a fault
unfoldable pub fault_text : DemandFault → List ℕ
fault_text (BadByte k) = codes "bad byte"
fault_text (UnknownLine k) = codes "unknown line"
fault_text (BadNumber k) = codes "bad number"
fault_text (OutOfRange k) = codes "out of range"
fault_text (NotWork k) = codes "not a work code"
fault_text (Twice k) = codes "said twice"
fault_text (WrongCount k found) = codes "wrong count of needs"
fault_text NoHeads = codes "no heads line"
fault_text TooLong = codes "the text is too long"
fault_text (NoNeed k) = codes "no need line before"
fault_text (NoName k) = codes "no such name"
fault_text (Mixed k) = codes "heads and groups together"
fault_text (TooManyGroups k) = codes "too many groups, at most 8"
fault_text Memory = codes "out of memory"

-- the fault, after the word `demand` and its line
abbrev pub fault_line : DemandFault → List ℕ
fault_line e = codes "demand: " ++ place_text (line_of e) ++ fault_text e ++ 10 ∷ []
