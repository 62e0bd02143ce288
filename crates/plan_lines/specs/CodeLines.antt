-- What the lines of codes, of what they cost more at times, and of needs say.
use Rattle.std.specs.Prelude.{ℕ, Bool, List, [], ◌∷◌, ◌++◌, None, Option, Some, Result, Ok, Err, filter, length, nat_eq, nat_le, nat_lt, not, if◌then◌else◌}
use Rattle.std.specs.List.{list_any}
use Rattle.std.specs.Str.{bytes_eq}
use Rattle.plan_faults.specs.declared.fault.Kind.TheVariants as kind
use Rattle.plan_faults.specs.declared.fault.LineFault.{LineFault}
use Rattle.plan_faults.specs.declared.fault.LineFault.TheVariants as line
use Rattle.plan_faults.specs.declared.fault.NameFault.TheVariants.{Stands}
use Rattle.plan_faults.specs.declared.fault.StandFault.TheVariants.{Late, ManyPauses, ManyWork, SecondNeed}
use Rattle.plan_fields.specs.Codes.{known_at, new_at, work_at}
use Rattle.plan_fields.specs.Costs.{costly_period, told}
use Rattle.plan_fields.specs.Drafts.{decimals_of}
use Rattle.plan_fields.specs.Names.{name_at}
use Rattle.plan_fields.specs.Pairs.{lengths_at, span_at}
use Rattle.plan_fields.specs.Steps.{◌>>=◌, quoted}
use Rattle.plan_fields.specs.declared.draft.Draft.{Draft}
use Rattle.plan_meaning.specs.declared.plan.Extra.{Extra}
use Rattle.plan_meaning.specs.declared.plan.Need.{Need}
use Rattle.plan_meaning.specs.declared.plan.PlanCode.{PlanCode}
use Rattle.plan_meaning.specs.declared.plan.PlanDay.{PlanDay}
use Rattle.plan_words.specs.Amounts.{hour_at}

-- how many codes of work there are, and how many pauses
abbrev pub work_count : List PlanCode → ℕ
work_count xs = length (filter (λ (x : PlanCode). x.work) xs)

abbrev pub pause_count : List PlanCode → ℕ
pause_count xs = length (filter (λ (x : PlanCode). not x.work) xs)

-- a further code of work can stand
unfoldable pub room_for_work : Draft → Result Unit LineFault
room_for_work draft =
    if nat_lt 0 (length draft.duties) then Err (line.Stand (Late kind.Work))
    else (if nat_le 8 (work_count draft.codes) then Err (line.Stand ManyWork) else Ok tt)

-- a further pause can stand
unfoldable pub room_for_pause : Draft → Result Unit LineFault
room_for_pause draft =
    if nat_lt 0 (length draft.duties) then Err (line.Stand (Late kind.Pause))
    else (if nat_le 23 (pause_count draft.codes) then Err (line.Stand ManyPauses) else Ok tt)

unfoldable pub room_for : Draft → Bool → Result Unit LineFault
room_for draft work = if work then room_for_work draft else room_for_pause draft

-- a code has the name
abbrev pub has_name : List ℕ → List PlanCode → Bool
has_name name xs = list_any (λ (x : PlanCode). bytes_eq x.words name) xs

-- what a code is called, as no other is
unfoldable pub new_name : List PlanCode → List (List ℕ) → Result (List ℕ) LineFault
new_name xs ws = name_at 60 ws >>= λ n. if has_name n xs then Err (line.Name n Stands) else Ok n

unfoldable pub code_words : PlanDay → Draft → Bool → List ℕ → List ℕ → List ℕ → List ℕ → List (List ℕ) → Result PlanCode LineFault
code_words d draft work code least greatest amount ws =
    new_at draft.codes code >>= λ c. lengths_at d least greatest >>= λ l.
    quoted amount (hour_at d.minutes (decimals_of draft) amount) >>= λ h. new_name draft.codes ws >>= λ n.
    Ok (record { code = c; work = work; lasts = l; hour = h; words = n })

unfoldable pub new_code : PlanDay → Draft → Bool → List (List ℕ) → Result PlanCode LineFault
new_code d draft work (code ∷ least ∷ greatest ∷ amount ∷ w ∷ ws) =
    code_words d draft work code least greatest amount (w ∷ ws)
new_code d draft work ws = Err (line.Count (length ws) 5 None)

-- the line of a code of work, or of a pause
abbrev pub code_line : PlanDay → Draft → Bool → List (List ℕ) → Result Draft LineFault
code_line d draft work ws =
    room_for draft work >>= λ room. new_code d draft work ws >>= λ x.
    Ok (record draft { codes = draft.codes ++ x ∷ [] })

-- no period costs too much, or the first that does
abbrev pub cheap_or : List Extra → ℕ → Option ℕ → Result (List Extra) LineFault
cheap_or es code None = Ok es
cheap_or es code (Some units) = Err (line.Period code (told units))

-- one more line by which a code costs more, an hour of which costs so much at other times
unfoldable pub with_extra : PlanDay → List Extra → ℕ → Extra → Result (List Extra) LineFault
with_extra d es hour e = cheap_or (es ++ e ∷ []) e.code (costly_period d (es ++ e ∷ []) e.code hour)

unfoldable pub extra_words : PlanDay → Draft → List ℕ → List ℕ → List ℕ → List ℕ → Result Draft LineFault
extra_words d draft code from to amount =
    known_at draft.codes code >>= λ x. span_at d from to >>= λ t.
    quoted amount (hour_at d.minutes (decimals_of draft) amount) >>= λ h.
    with_extra d draft.extras x.hour (record { code = x.code; times = t; hour = h }) >>= λ es.
    Ok (record draft { extras = es })

unfoldable pub new_extra : PlanDay → Draft → List (List ℕ) → Result Draft LineFault
new_extra d draft (code ∷ from ∷ to ∷ amount ∷ []) = extra_words d draft code from to amount
new_extra d draft ws = Err (line.Count (length ws) 4 (Some 4))

-- a line by which a code costs more, above the duties
unfoldable pub extra_line : PlanDay → Draft → List (List ℕ) → Result Draft LineFault
extra_line d draft ws =
    if nat_lt 0 (length draft.duties) then Err (line.Stand (Late kind.Extra)) else new_extra d draft ws

-- a need line of the code stands above
abbrev pub has_need : List Need → ℕ → Bool
has_need ns code = list_any (λ (n : Need). nat_eq n.code code) ns

unfoldable pub need_words : PlanDay → Draft → List ℕ → List ℕ → List ℕ → Result Need LineFault
need_words d draft code missing needless =
    work_at draft.codes code >>= λ c. if has_need draft.needs c then Err (line.Stand (SecondNeed c))
    else (quoted missing (hour_at d.minutes (decimals_of draft) missing) >>= λ m.
    quoted needless (hour_at d.minutes (decimals_of draft) needless) >>= λ n.
    Ok (record { code = c; missing = m; needless = n }))

unfoldable pub new_need : PlanDay → Draft → List (List ℕ) → Result Need LineFault
new_need d draft (code ∷ missing ∷ needless ∷ []) = need_words d draft code missing needless
new_need d draft ws = Err (line.Count (length ws) 3 (Some 3))

-- a need line, of which each code of work has at most one
unfoldable pub need_line : PlanDay → Draft → List (List ℕ) → Result Draft LineFault
need_line d draft ws = new_need d draft ws >>= λ n. Ok (record draft { needs = draft.needs ++ n ∷ [] })
