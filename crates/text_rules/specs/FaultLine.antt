-- The one line that tells a fault.
use Rattle.std.specs.Prelude.{ℕ, List, [], ◌∷◌, ◌++◌, Option, Some, None, codes}
use Rattle.std.specs.Fmt.{decimal}
use Rattle.text_lines.specs.Places.{place_text}
use Rattle.text_rules.specs.declared.fault.Limit.{Limit}
use Rattle.text_rules.specs.declared.fault.Limit.TheVariants.{Codes, Work, Names, Rules, Right}
use Rattle.text_rules.specs.declared.fault.RulesFault.{RulesFault}
use Rattle.text_rules.specs.declared.fault.RulesFault.TheVariants.{BadByte, UnknownLine, BadNumber, OutOfRange, BadName, Twice, UnknownCode, TooMany, EmptyRight, NoPeriods, NoStart, NoRule, UnitCycle, TooLong, Memory}

-- the line that a fault carries
abbrev pub line_of : RulesFault → Option ℕ
line_of (BadByte k) = Some k
line_of (UnknownLine k) = Some k
line_of (BadNumber k) = Some k
line_of (OutOfRange k) = Some k
line_of (BadName k) = Some k
line_of (Twice k) = Some k
line_of (UnknownCode k) = Some k
line_of (TooMany k what most) = Some k
line_of (EmptyRight k) = Some k
line_of NoPeriods = None
line_of NoStart = None
line_of (NoRule k word) = Some k
line_of (UnitCycle k word) = Some k
line_of TooLong = None
line_of Memory = None

-- what there is too much of
unfoldable pub limit_text : Limit → List ℕ
limit_text Codes = codes "codes"
limit_text Work = codes "work codes"
limit_text Names = codes "names"
limit_text Rules = codes "rules"
limit_text Right = codes "symbols"

-- the text of a fault
unfoldable pub fault_text : RulesFault → List ℕ
fault_text (BadByte k) = codes "bad byte"
fault_text (UnknownLine k) = codes "unknown line"
fault_text (BadNumber k) = codes "bad number"
fault_text (OutOfRange k) = codes "out of range"
fault_text (BadName k) = codes "bad name"
fault_text (Twice k) = codes "said twice"
fault_text (UnknownCode k) = codes "unknown code"
fault_text (TooMany k what most) = codes "too many " ++ limit_text what ++ codes ", at most " ++ decimal most
fault_text (EmptyRight k) = codes "empty right side"
fault_text NoPeriods = codes "no periods line"
fault_text NoStart = codes "no start line"
fault_text (NoRule k word) = codes "a name has no rule"
fault_text (UnitCycle k word) = codes "a name leads back to itself by one-symbol rules"
fault_text TooLong = codes "the text is too long"
fault_text Memory = codes "out of memory"

-- what there is too much of, and the most that there may be, behind the words `too many`
abbrev pub most_text : RulesFault → List ℕ
most_text (TooMany k what most) = limit_text what ++ codes ", at most " ++ decimal most
most_text _ = []

-- the fault, after the word `rules` and its line
abbrev pub fault_line : RulesFault → List ℕ
fault_line e = codes "rules: " ++ place_text (line_of e) ++ fault_text e ++ 10 ∷ []
