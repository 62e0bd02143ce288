-- The lines of causes.
use Rattle.std.specs.Prelude.{ℕ, zero, suc, ◌-◌, List, [], ◌∷◌, ◌++◌, Option, None, Some, codes, slice_get}
use Rattle.std.specs.Fmt.{decimal}
use Rattle.model_rosters.specs.declared.instance.Instance.{Instance}
use Rattle.model_rosters.specs.declared.instance.Shift.{Shift}
use Rattle.text_certificates.specs.Written.{group_name}
use Rattle.text_lines.specs.Written.{tail}
use Rattle.check_values.specs.declared.cause.Cause.{Cause}
use Rattle.check_values.specs.declared.cause.Cause.TheVariants.{NoShift, TooFew, TooMany, BelowFloor, AboveCeiling}

-- a number behind a space
abbrev pub field : ℕ → List ℕ
field n = tail (decimal n ∷ [])

abbrev pub letters : Option Shift → List ℕ
letters None = []
letters (Some s) = s.word

-- the word of shift number k
abbrev pub word_at : List Shift → ℕ → List ℕ
word_at shifts k = letters (slice_get shifts (k - 1))

-- whose employees are counted: all, or those of the group of a number
abbrev pub team_text : Instance → ℕ → List ℕ
team_text i zero = codes "heads"
team_text i (suc k) = codes "group" ++ tail (group_name i (suc k) ∷ [])

-- a shift that is none
abbrev pub no_shift_text : List Shift → ℕ → List ℕ
no_shift_text shifts k = codes "shift" ++ field k ++ tail (word_at shifts k ∷ []) ++ codes ": no shift\n"

-- a phrase, a number, and the end of the line
abbrev pub phrase_end : List ℕ → ℕ → List ℕ
phrase_end phrase n = phrase ++ field n ++ codes "\n"

-- so many employees of a team, and how many may work
abbrev pub range_text : Instance → ℕ → ℕ → List ℕ → ℕ → List ℕ
range_text i group count phrase limit = team_text i group ++ field count ++ phrase_end phrase limit

-- a cell by the byte of its code and its period, behind a word
abbrev pub cell_text : List ℕ → ℕ → ℕ → List ℕ
cell_text first byte period = first ++ tail ((byte ∷ []) ∷ []) ++ codes " period" ++ field period

-- a cell, how many employees work there, and its floor or ceiling
abbrev pub limit_text : List ℕ → ℕ → ℕ → ℕ → ℕ → List ℕ
limit_text first byte period have limit =
    cell_text first byte period ++ codes ":" ++ field have ++ phrase_end (codes " of") limit

-- the line of a cause, with its end
abbrev pub cause_text : Instance → List Shift → Cause → List ℕ
cause_text i shifts (NoShift k) = no_shift_text shifts k
cause_text i shifts (TooFew group count least) = range_text i group count (codes ": at least") least
cause_text i shifts (TooMany group count most) = range_text i group count (codes ": at most") most
cause_text i shifts (BelowFloor byte period have floor) = limit_text (codes "floor") byte period have floor
cause_text i shifts (AboveCeiling byte period have ceiling) =
    limit_text (codes "ceiling") byte period have ceiling

-- a line for each cause
abbrev pub causes_text : Instance → List Shift → List Cause → List ℕ
causes_text i shifts [] = []
causes_text i shifts (c ∷ cs) = cause_text i shifts c ++ causes_text i shifts cs
