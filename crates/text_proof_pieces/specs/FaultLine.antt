-- The one line that tells a fault.
use Rattle.std.specs.Prelude.{ℕ, List, [], ◌∷◌, ◌++◌, Option, Some, None, codes}
use Rattle.text_proof_pieces.specs.declared.fault.ProofFault.{ProofFault}
use Rattle.text_proof_pieces.specs.declared.fault.ProofFault.TheVariants.{BadByte, UnknownLine, BadNumber, OutOfRange, BadHeader, CutShort, Trailing, TooManyNodes, TooLong, Memory}
use Rattle.text_lines.specs.Places.{place_text}

-- the line that a fault carries
abbrev pub line_of : ProofFault → Option ℕ
line_of (BadByte k) = Some k
line_of (UnknownLine k) = Some k
line_of (BadNumber k) = Some k
line_of (OutOfRange k) = Some k
line_of (BadHeader k) = Some k
line_of CutShort = None
line_of (Trailing k) = Some k
line_of (TooManyNodes k) = Some k
line_of TooLong = None
line_of Memory = None

-- the text of a fault
unfoldable pub fault_text : ProofFault → List ℕ
fault_text (BadByte k) = codes "bad byte"
fault_text (UnknownLine k) = codes "unknown line"
fault_text (BadNumber k) = codes "bad number"
fault_text (OutOfRange k) = codes "out of range"
fault_text (BadHeader k) = codes "bad header"
fault_text CutShort = codes "the text ends early"
fault_text (Trailing k) = codes "text after the end"
fault_text (TooManyNodes k) = codes "too many nodes, at most 20001"
fault_text TooLong = codes "the text is too long"
fault_text Memory = codes "out of memory"

-- the fault, after the word `proof` and its line
abbrev pub fault_line : ProofFault → List ℕ
fault_line e = codes "proof: " ++ place_text (line_of e) ++ fault_text e ++ 10 ∷ []
