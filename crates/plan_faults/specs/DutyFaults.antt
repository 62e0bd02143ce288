-- What is said of duties, of their starts and of staff.
use Rattle.std.specs.Prelude.{ℕ, List, [], ◌∷◌, ◌++◌, codes}
use Rattle.plan_meaning.specs.declared.plan.Lengths.{Lengths}
use Rattle.text_lines.specs.Written.{tail}
use Rattle.plan_faults.specs.Clocks.{clock_text}
use Rattle.plan_faults.specs.Counts.{counted}
use Rattle.plan_faults.specs.Phrases.{said}
use Rattle.plan_faults.specs.declared.fault.DutyFault.{DutyFault}
use Rattle.plan_faults.specs.declared.fault.DutyFault.TheVariants.{Block, NoBlocks, Nowhere, Sum}
use Rattle.plan_faults.specs.declared.fault.PartFault.{PartFault}
use Rattle.plan_faults.specs.declared.fault.PartFault.TheVariants.{Behind, Codes, ManyParts, NoEqual, NoParts, OneTime, Twice, TwoPauses, TwoStretches}
use Rattle.plan_faults.specs.declared.fault.StaffFault.{StaffFault}
use Rattle.plan_faults.specs.declared.fault.StaffFault.TheVariants as staff
use Rattle.plan_faults.specs.declared.fault.StartsFault.{StartsFault}
use Rattle.plan_faults.specs.declared.fault.StartsFault.TheVariants as starts
use Rattle.plan_faults.specs.declared.duties.DutyPhrase.{DutyPhrase}
use Rattle.plan_faults.specs.declared.duties.DutyPhrase.TheVariants as phrase

-- fixed words
unfoldable pub duty_phrase : DutyPhrase → List ℕ
duty_phrase phrase.MostUnits = codes "; at most 10000 can stand"
duty_phrase phrase.NoDivisor = codes " does not divide 24 hours"
duty_phrase phrase.MostStarts = codes "; at most 8 can stand"
duty_phrase phrase.MostParts = codes "; at most 8"
duty_phrase phrase.NoMultiple = codes "no period begins at a multiple of "
duty_phrase phrase.ByClock = codes " by the clock"
duty_phrase phrase.SideBySide = codes "two parts of one kind side by side: "
duty_phrase phrase.OneTime = codes " stands one time; two, between which it begins, or none"
duty_phrase phrase.NoParts = codes "nothing stands behind the ="
duty_phrase phrase.AtLeast = codes " at least, a stretch "
duty_phrase phrase.StretchIs = codes "a stretch of work is "
duty_phrase phrase.NoBlocks = codes " long, and no blocks of"
duty_phrase phrase.PartsTake = codes "the parts take "
duty_phrase phrase.DutyHas = codes " together, the duty has "
duty_phrase phrase.FitNowhere = codes " fit nowhere between the times of begin and end"
duty_phrase phrase.NoStaff = codes " has no staff line; staff lines are for"
duty_phrase phrase.InAll = codes " in all; at most 64"
duty_phrase phrase.EqualStands = codes " where the = stands, as: duty Full 8:00 9:00 20 = work m work"
duty_phrase phrase.CodeTwice = codes " has a code twice, or none"
duty_phrase phrase.BehindStands = codes " where begin, end or stretch with two times, or plus with an amount, can stand"
duty_phrase phrase.TwoStretches = codes "two stretches of work"

-- with this, a period of the code costs too many units
abbrev pub period_text : List ℕ → ℕ → ℕ → List ℕ
period_text with_what code units =
    said (codes "with ") ++ (with_what ++ (said (codes " a period of ") ++ ((code ∷ []) ++ (said (codes " costs ")
    ++ (counted units (codes "unit") ++ duty_phrase phrase.MostUnits)))))

-- a length at whose multiples duties cannot start
unfoldable pub starts_text : List ℕ → StartsFault → List ℕ
starts_text word starts.Uneven = word ++ duty_phrase phrase.NoDivisor
starts_text word (starts.Many periods) =
    word ++ (said (codes " is ") ++ (counted periods (codes "period") ++ duty_phrase phrase.MostStarts))
starts_text word starts.Never = duty_phrase phrase.NoMultiple ++ (word ++ duty_phrase phrase.ByClock)

-- a word, and what is said of it
abbrev pub quoted : List ℕ → List ℕ → List ℕ
quoted word behind = word ++ behind

abbrev pub side_text : List ℕ → List ℕ
side_text parts = duty_phrase phrase.SideBySide ++ parts

-- too many parts
abbrev pub many_text : ℕ → List ℕ
many_text parts = counted parts (codes "part") ++ duty_phrase phrase.MostParts

-- the parts of a duty
unfoldable pub part_text : PartFault → List ℕ
part_text (NoEqual word) = quoted word (duty_phrase phrase.EqualStands)
part_text (Codes word) = quoted word (duty_phrase phrase.CodeTwice)
part_text TwoStretches = side_text (duty_phrase phrase.TwoStretches)
part_text (TwoPauses code) = side_text (code ∷ [])
part_text (OneTime code) =
    said (codes "behind ") ++ ((code ∷ []) ++ duty_phrase phrase.OneTime)
part_text NoParts = duty_phrase phrase.NoParts
part_text (ManyParts parts) = many_text parts
part_text (Behind word) =
    quoted word (duty_phrase phrase.BehindStands)
part_text (Twice word) = quoted word (said (codes " twice"))

-- two lengths
abbrev pub lengths_text : Lengths → List ℕ
lengths_text x = clock_text x.least ++ (said (codes " to ") ++ clock_text x.greatest)

-- codes, each behind a space
abbrev pub spaced_codes : List ℕ → List ℕ
spaced_codes [] = []
spaced_codes (c ∷ cs) = 32 ∷ (c ∷ spaced_codes cs)

-- how long a block and a stretch last
abbrev pub lasts_text : ℕ → ℕ → List ℕ
lasts_text least most =
    said (codes " lasts ") ++ (clock_text least ++ (duty_phrase phrase.AtLeast ++ (clock_text most
    ++ said (codes " at most"))))

abbrev pub block_text : List ℕ → ℕ → ℕ → List ℕ
block_text name least most = said (codes "a block of ") ++ (name ++ lasts_text least most)

abbrev pub blocks_text : Lengths → List ℕ → List ℕ
blocks_text stretch cs =
    duty_phrase phrase.StretchIs ++ (lengths_text stretch ++ (duty_phrase phrase.NoBlocks
    ++ (spaced_codes cs ++ said (codes " make one"))))

abbrev pub sum_text : ℕ → ℕ → Lengths → List ℕ
sum_text least greatest duty =
    duty_phrase phrase.PartsTake ++ (clock_text least ++ (said (codes " to ") ++ (clock_text greatest
    ++ (duty_phrase phrase.DutyHas ++ lengths_text duty))))

-- a duty that cannot be
unfoldable pub duty_text : DutyFault → List ℕ
duty_text (Block name least most) = block_text name least most
duty_text (NoBlocks stretch cs) = blocks_text stretch cs
duty_text (Sum least greatest duty) = sum_text least greatest duty
duty_text (Nowhere duty) = lengths_text duty ++ duty_phrase phrase.FitNowhere

abbrev pub missing_text : List ℕ → List (List ℕ) → List ℕ
missing_text name named =
    said (codes "the duty ") ++ (name ++ (duty_phrase phrase.NoStaff ++ tail named))

-- staff that cannot be
unfoldable pub staff_text : StaffFault → List ℕ
staff_text (staff.Many employees) = counted employees (codes "employee") ++ duty_phrase phrase.InAll
staff_text (staff.Missing name named) = missing_text name named
