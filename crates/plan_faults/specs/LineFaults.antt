-- What is said of a line that cannot stand.
use Rattle.std.specs.Prelude.{ℕ, List, [], ◌∷◌, ◌++◌, codes, nat_eq, None, Option, Some, if◌then◌else◌}
use Rattle.std.specs.Fmt.{decimal}
use Rattle.plan_words.specs.declared.fault.DayFault.{DayFault}
use Rattle.plan_words.specs.declared.fault.DayFault.TheVariants.{ManyPeriods, PartDay}
use Rattle.plan_faults.specs.Counts.{counted}
use Rattle.plan_faults.specs.Phrases.{said}
use Rattle.plan_faults.specs.declared.fault.CodeFault.{CodeFault}
use Rattle.plan_faults.specs.declared.fault.CodeFault.TheVariants as code
use Rattle.plan_faults.specs.declared.fault.Kind.{Kind}
use Rattle.plan_faults.specs.declared.fault.Kind.TheVariants as kind
use Rattle.plan_faults.specs.declared.fault.NameFault.{NameFault}
use Rattle.plan_faults.specs.declared.fault.NameFault.TheVariants as name
use Rattle.plan_faults.specs.declared.fault.PairFault.{PairFault}
use Rattle.plan_faults.specs.declared.fault.PairFault.TheVariants.{Later, Longer, More, NotBefore}
use Rattle.plan_faults.specs.declared.fault.Signs.{Signs}
use Rattle.plan_faults.specs.declared.fault.Signs.TheVariants.{Control, NoText, NotPlain}
use Rattle.plan_faults.specs.declared.fault.StandFault.{StandFault}
use Rattle.plan_faults.specs.declared.fault.StandFault.TheVariants.{DayFirst, Late, ManyPauses, ManyStaff, ManyWork, Second, SecondNeed, SecondStaff, Unknown}
use Rattle.plan_faults.specs.declared.lines.LinePhrase.{LinePhrase}
use Rattle.plan_faults.specs.declared.lines.LinePhrase.TheVariants as phrase

-- fixed words
unfoldable pub line_phrase : LinePhrase → List ℕ
line_phrase phrase.NoLineBegins = codes "no line begins with "
line_phrase phrase.DayFirst = codes "the day line comes first, as: day 9:00 21:00 60"
line_phrase phrase.NinthWork = codes "a ninth code of work; at most 8"
line_phrase phrase.ManyPauses = codes "a 24th pause; at most 23"
line_phrase phrase.NinthStaff = codes "a ninth staff line; at most 8"
line_phrase phrase.BehindFirst = codes " behind the first; it wants "
line_phrase phrase.NoWhole = codes ", which is no whole number of periods of "
line_phrase phrase.MostPeriods = codes "; at most 96"
line_phrase phrase.StandsAbove = codes " stands above already"
line_phrase phrase.NoLineAbove = codes "no line above has the code "
line_phrase phrase.IsWork = codes " is a code of work; as a part of a duty it is work:"
line_phrase phrase.IsPause = codes " is a pause, and no code of work"
line_phrase phrase.NoDutyAbove = codes "no duty line above has the name "

-- the first word of a line
unfoldable pub first_word : Kind → List ℕ
first_word kind.Title = codes "title"
first_word kind.Day = codes "day"
first_word kind.Money = codes "money"
first_word kind.Work = codes "work"
first_word kind.Pause = codes "pause"
first_word kind.Extra = codes "extra"
first_word kind.Change = codes "change"
first_word kind.Stretch = codes "stretch"
first_word kind.Starts = codes "starts"
first_word kind.Duty = codes "duty"
first_word kind.Staff = codes "staff"
first_word kind.Need = codes "need"

-- what a line holds before its comment, and may not
unfoldable pub signs_text : Signs → List ℕ
signs_text NoText = codes "bytes that are no UTF-8; save the text as UTF-8"
signs_text Control = codes "a control sign"
signs_text NotPlain = codes "a sign that is no plain letter, as an accent or a curly quote"

abbrev pub unknown_text : List ℕ → List ℕ
unknown_text word = line_phrase phrase.NoLineBegins ++ word

abbrev pub second_text : Kind → List ℕ
second_text kind = said (codes "a second ") ++ (first_word kind ++ said (codes " line"))

-- a second line of one code, or of one name
abbrev pub second_of : Kind → List ℕ → List ℕ
second_of kind of_what = second_text kind ++ (said (codes " of ") ++ of_what)

-- what a line comes before: amounts, or duties
unfoldable pub late_text : Kind → List ℕ
late_text kind.Money = codes " line comes before all amounts"
late_text _ = codes " line comes before the duties"

abbrev pub late_line : Kind → List ℕ
late_line kind = said (codes "the ") ++ (first_word kind ++ late_text kind)

-- why a line cannot stand where it stands
unfoldable pub stand_text : StandFault → List ℕ
stand_text (Unknown word) = unknown_text word
stand_text DayFirst = line_phrase phrase.DayFirst
stand_text (Second kind) = second_text kind
stand_text (SecondNeed code) = second_of kind.Need (code ∷ [])
stand_text (SecondStaff name) = second_of kind.Staff name
stand_text (Late kind) = late_line kind
stand_text ManyWork = line_phrase phrase.NinthWork
stand_text ManyPauses = line_phrase phrase.ManyPauses
stand_text ManyStaff = line_phrase phrase.NinthStaff

-- what may stand behind the least number of words
abbrev pub wanted_more : ℕ → ℕ → List ℕ
wanted_more least most = if nat_eq most least then [] else said (codes " to ") ++ decimal most

-- how many words are wanted
unfoldable pub wanted : ℕ → Option ℕ → List ℕ
wanted least None = decimal least ++ said (codes " or more")
wanted least (Some most) = decimal least ++ wanted_more least most

-- how many words stand behind the first
abbrev pub count_text : ℕ → ℕ → Option ℕ → List ℕ
count_text found least most =
    counted found (codes "word") ++ (line_phrase phrase.BehindFirst ++ wanted least most)

unfoldable pub pair_middle : PairFault → List ℕ
pair_middle More = codes " is more than "
pair_middle Longer = codes " is longer than "
pair_middle Later = codes " is later than "
pair_middle NotBefore = codes " is not before "

unfoldable pub pair_today : PairFault → List ℕ
pair_today More = []
pair_today Longer = []
pair_today Later = codes " in this day"
pair_today NotBefore = codes " in this day"

-- two words of which the first is above the second
abbrev pub pair_text : List ℕ → List ℕ → PairFault → List ℕ
pair_text first second fault = first ++ (pair_middle fault ++ (second ++ pair_today fault))

unfoldable pub day_text : DayFault → List ℕ
day_text (PartDay length minutes) =
    counted length (codes "minute") ++ (line_phrase phrase.NoWhole ++ decimal minutes)
day_text (ManyPeriods periods minutes) =
    counted periods (codes "period") ++ (said (codes " of ") ++ (counted minutes (codes "minute") ++ line_phrase phrase.MostPeriods))

-- times that make no day of whole periods
abbrev pub whole_day_text : List ℕ → List ℕ → DayFault → List ℕ
whole_day_text begin end fault = said (codes "from ") ++ (begin ++ (said (codes " to ") ++ (end ++ (said (codes " are ") ++ day_text fault))))

-- a code that cannot stand
unfoldable pub code_text : ℕ → CodeFault → List ℕ
code_text c code.Stands = said (codes "the code ") ++ ((c ∷ []) ++ line_phrase phrase.StandsAbove)
code_text c code.Unknown = line_phrase phrase.NoLineAbove ++ (c ∷ [])
code_text c code.Work = (c ∷ []) ++ (line_phrase phrase.IsWork ++ (c ∷ []))
code_text c code.Pause = (c ∷ []) ++ line_phrase phrase.IsPause

-- a name that cannot stand
unfoldable pub name_text : List ℕ → NameFault → List ℕ
name_text n name.Stands = said (codes "the name ") ++ (n ++ line_phrase phrase.StandsAbove)
name_text n name.NoDuty = line_phrase phrase.NoDutyAbove ++ n

-- a name of so many bytes
abbrev pub bytes_text : ℕ → ℕ → List ℕ
bytes_text found most =
    said (codes "a name of ") ++ (counted found (codes "byte") ++ (said (codes "; 1 to ") ++ (decimal most ++ said (codes " can stand"))))
