-- The one line that tells a fault.
use Rattle.std.specs.Prelude.{ℕ, ◌&&◌, List, [], ◌∷◌, ◌++◌, None, Option, Some, codes, nat_le, nat_lt, if◌then◌else◌}
use Rattle.std.specs.Fmt.{decimal}
use Rattle.plan_words.specs.declared.fault.WordFault.{WordFault}
use Rattle.text_lines.specs.Places.{place_text}
use Rattle.plan_faults.specs.Counts.{counted}
use Rattle.plan_faults.specs.Phrases.{said}
use Rattle.plan_faults.specs.DutyFaults.{duty_text, part_text, period_text, staff_text, starts_text}
use Rattle.plan_faults.specs.LineFaults.{bytes_text, code_text, count_text, first_word, name_text, pair_text, signs_text, stand_text, whole_day_text}
use Rattle.plan_faults.specs.WordFaults.{word_fault}
use Rattle.plan_faults.specs.declared.fault.Kind.{Kind}
use Rattle.plan_faults.specs.declared.fault.LineFault.{LineFault}
use Rattle.plan_faults.specs.declared.fault.LineFault.TheVariants as line
use Rattle.plan_faults.specs.declared.fault.PlanFault.{PlanFault}
use Rattle.plan_faults.specs.declared.fault.PlanFault.TheVariants.{Line, Memory, NoLine, TooLong, TooMuch}
use Rattle.plan_faults.specs.declared.message.TextPhrase.{TextPhrase}
use Rattle.plan_faults.specs.declared.message.TextPhrase.TheVariants as phrase

-- fixed words
unfoldable pub text_phrase : TextPhrase → List ℕ
text_phrase phrase.Fewer = codes ": fewer sets of codes in work:.., fewer plus, or greatest blocks as long as the stretch"
text_phrase phrase.TooLong = codes "the text is too long"

-- a word, and why it cannot stand
abbrev pub word_text : List ℕ → WordFault → List ℕ
word_text word fault = word ++ word_fault fault

-- why a line cannot stand
unfoldable pub line_text : LineFault → List ℕ
line_text (line.Signs signs) = signs_text signs
line_text (line.Stand fault) = stand_text fault
line_text (line.Count found least most) = count_text found least most
line_text (line.Word word fault) = word_text word fault
line_text (line.Pair first second fault) = pair_text first second fault
line_text (line.Day begin end fault) = whole_day_text begin end fault
line_text (line.Code code fault) = code_text code fault
line_text (line.Name name fault) = name_text name fault
line_text (line.Bytes found most) = bytes_text found most
line_text (line.Period code units) = period_text (codes "this") code units
line_text (line.Plus code units) = period_text (codes "plus") code units
line_text (line.Starts word fault) = starts_text word fault
line_text (line.Part fault) = part_text fault
line_text (line.Duty fault) = duty_text fault
line_text (line.Staff fault) = staff_text fault
line_text line.Memory = said (codes "out of memory")

-- no such line stands
abbrev pub missing_line : Kind → List ℕ
missing_line kind = said (codes "no ") ++ (first_word kind ++ said (codes " line"))

-- a number that is too great, or nothing
unfoldable pub over_text : ℕ → List ℕ → ℕ → List ℕ
over_text found noun most =
    if nat_le found most then [] else counted found noun ++ (said (codes ", at most ") ++ decimal most)

-- what parts two numbers that are both too great
unfoldable pub parted : ℕ → ℕ → List ℕ
parted rules names = if nat_lt 64 rules && nat_lt 32 names then said (codes "; ") else []

-- too many rules or names
abbrev pub much_text : ℕ → ℕ → List ℕ
much_text rules names =
    over_text rules (codes "rule") 64 ++ (parted rules names ++ (over_text names (codes "name") 32
    ++ text_phrase phrase.Fewer))

-- the line that a fault carries
abbrev pub line_of : PlanFault → Option ℕ
line_of TooLong = None
line_of (Line line fault) = Some line
line_of (NoLine kind) = None
line_of (TooMuch rules names) = None
line_of Memory = None

-- what is said of a fault
unfoldable pub fault_text : PlanFault → List ℕ
fault_text TooLong = text_phrase phrase.TooLong
fault_text (Line line fault) = line_text fault
fault_text (NoLine kind) = missing_line kind
fault_text (TooMuch rules names) = much_text rules names
fault_text Memory = said (codes "out of memory")

-- the fault, after the word `plan` and its line
abbrev pub fault_line : PlanFault → List ℕ
fault_line e = said (codes "plan: ") ++ place_text (line_of e) ++ fault_text e ++ 10 ∷ []
