-- What is said of a word that cannot stand, behind the word itself.
use Rattle.std.specs.Prelude.{ℕ, List, ◌++◌, codes, nat_lt, if◌then◌else◌}
use Rattle.std.specs.Fmt.{decimal}
use Rattle.plan_words.specs.declared.fault.WordFault.{WordFault}
use Rattle.plan_words.specs.declared.fault.WordFault.TheVariants.{NoCode, NoName, NoNumber, Outside, NoAmount, Decimals, Units, Uneven, PeriodUnits, NoLength, PartPeriod, Periods, NoTime, NoBegin, OutsideDay}
use Rattle.plan_faults.specs.Amounts.{amount_text}
use Rattle.plan_faults.specs.Clocks.{begin_text, clock_text, end_text}
use Rattle.plan_faults.specs.Counts.{counted}
use Rattle.plan_faults.specs.Phrases.{said}
use Rattle.plan_faults.specs.declared.words.WordPhrase.{WordPhrase}
use Rattle.plan_faults.specs.declared.words.WordPhrase.TheVariants as phrase

-- fixed words
unfoldable pub word_phrase : WordPhrase → List ℕ
word_phrase phrase.MostDecimals = codes "; at most 3 can stand"
word_phrase phrase.SayMoney = codes "; say: money NAME "
word_phrase phrase.AmountsHave = codes ", amounts have "
word_phrase phrase.UnevenHour = codes " an hour does not come out even in periods of "
word_phrase phrase.MostUnits = codes "; at most 10000 can stand"
word_phrase phrase.MostPeriod = codes " a period; at most 10000 can stand"
word_phrase phrase.PartPeriods = codes " is no whole number of periods of "
word_phrase phrase.NoBegin = codes " is no begin of a period: they last "
word_phrase phrase.OutsideDay = codes " is outside the day, "
word_phrase phrase.NoCode = codes " is no code: a code is one letter or digit"
word_phrase phrase.NoName = codes " is no name: a letter, and up to 23 letters and digits"
word_phrase phrase.NoNumber = codes " is no whole number"
word_phrase phrase.NoAmount = codes " is no amount, as 15 or 15.50"
word_phrase phrase.NoLength = codes " is no length of time, as 2:00"
word_phrase phrase.NoTime = codes " is no time of day, as 9:00"
word_phrase phrase.HourIs = codes " an hour is "
word_phrase phrase.HereOneTo = codes "; here 1 to "

-- a number outside a range
abbrev pub outside_text : ℕ → ℕ → List ℕ
outside_text low high = said (codes " is not ") ++ (decimal low ++ (said (codes " to ") ++ decimal high))

-- what helps against so many decimals
unfoldable pub remedy : ℕ → List ℕ
remedy found = if nat_lt 3 found then word_phrase phrase.MostDecimals else word_phrase phrase.SayMoney ++ decimal found

-- more decimals than amounts have
abbrev pub decimals_text : ℕ → ℕ → List ℕ
decimals_text found have =
    said (codes " has ")
    ++ (counted found (codes "decimal") ++ (word_phrase phrase.AmountsHave ++ (decimal have ++ remedy found)))

-- two amounts that come out even
abbrev pub amounts_text : ℕ → ℕ → ℕ → List ℕ
amounts_text decimals below above =
    said (codes "; ") ++ (amount_text decimals below ++ (said (codes " and ") ++ (amount_text decimals above
    ++ said (codes " do"))))

-- an hour's amount that does not come out even, between two that do
abbrev pub even_text : ℕ → ℕ → ℕ → ℕ → List ℕ
even_text minutes decimals below above =
    word_phrase phrase.UnevenHour ++ (counted minutes (codes "minute") ++ amounts_text decimals below above)

-- an amount of more units than there may be
abbrev pub units_text : ℕ → List ℕ
units_text units = said (codes " is ") ++ (counted units (codes "unit") ++ word_phrase phrase.MostUnits)

-- an hour's amount of more units a period than there may be
abbrev pub hour_text : ℕ → List ℕ
hour_text units =
    word_phrase phrase.HourIs
    ++ (counted units (codes "unit") ++ word_phrase phrase.MostPeriod)

-- two lengths of whole periods
abbrev pub whole_text : ℕ → ℕ → List ℕ
whole_text below above =
    said (codes "; ") ++ (clock_text below ++ (said (codes " and ") ++ (clock_text above ++ said (codes " are"))))

-- a length of no whole periods, between two that are
abbrev pub part_text : ℕ → ℕ → ℕ → List ℕ
part_text minutes below above =
    word_phrase phrase.PartPeriods ++ (counted minutes (codes "minute") ++ whole_text below above)

-- a length of fewer or more periods than there may be
abbrev pub periods_text : ℕ → ℕ → List ℕ
periods_text periods most =
    said (codes " is ")
    ++ (counted periods (codes "period") ++ (word_phrase phrase.HereOneTo ++ (decimal most ++ said (codes " can stand"))))

-- a time at which no period begins
abbrev pub no_begin_text : ℕ → ℕ → List ℕ
no_begin_text minutes begin =
    word_phrase phrase.NoBegin
    ++ (counted minutes (codes "minute") ++ (said (codes " from ") ++ (begin_text begin ++ said (codes " on"))))

-- a time outside the day
abbrev pub outside_day_text : ℕ → ℕ → List ℕ
outside_day_text begin end =
    word_phrase phrase.OutsideDay ++ (begin_text begin ++ (said (codes " to ") ++ end_text end))

-- what is said of a word
unfoldable pub word_fault : WordFault → List ℕ
word_fault NoCode = word_phrase phrase.NoCode
word_fault NoName = word_phrase phrase.NoName
word_fault NoNumber = word_phrase phrase.NoNumber
word_fault (Outside low high) = outside_text low high
word_fault NoAmount = word_phrase phrase.NoAmount
word_fault (Decimals found have) = decimals_text found have
word_fault (Units units) = units_text units
word_fault (Uneven minutes decimals below above) = even_text minutes decimals below above
word_fault (PeriodUnits units) = hour_text units
word_fault NoLength = word_phrase phrase.NoLength
word_fault (PartPeriod minutes below above) = part_text minutes below above
word_fault (Periods periods most) = periods_text periods most
word_fault NoTime = word_phrase phrase.NoTime
word_fault (NoBegin minutes begin) = no_begin_text minutes begin
word_fault (OutsideDay begin end) = outside_day_text begin end
