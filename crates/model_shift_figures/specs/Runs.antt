-- Runs of shortage and of surplus.
use Rattle.std.specs.Prelude.{ℕ, ◌≡◌, ◌≤◌, ◌+◌, Bool, ◌&&◌, Option, None, Some, List, [], ◌∷◌, ◌++◌, All, length, nat_eq, nat_lt, if◌then◌else◌}
use Rattle.model_shift_figures.specs.declared.run.Lack.{Lack}
use Rattle.model_shift_figures.specs.declared.run.Run.{Run}

-- the periods of at most 8 codes in at most 96 periods, each with the cost of at most 64 employees
pub record AreDayLacks (lacks : List Lack) : Type 0 where
  pub few : length lacks ≤ 768
  pub small : All (λ (x : Lack). x.cost ≤ 1280000) lacks

-- a further period follows the run, and its number is the same
abbrev pub joins : Run → Lack → Bool
joins r x = nat_eq r.code x.code && nat_eq (r.last + 1) x.period && nat_eq r.count x.count

-- the run that a period begins
abbrev pub started : Lack → Run
started x = record { code = x.code; first = x.period; last = x.period; count = x.count; cost = x.cost }

-- the run with a further period
abbrev pub extended : Run → Lack → Run
extended r x = record { code = r.code; first = r.first; last = x.period; count = r.count; cost = r.cost + x.cost }

-- the run to which a period belongs that has a number
unfoldable pub grown : Option Run → Lack → Run
grown None x = started x
grown (Some r) x = if joins r x then extended r x else started x

-- the run that is open behind a further period
unfoldable pub next_open : Option Run → Lack → Option Run
next_open live x = if nat_eq x.count 0 then None else Some (grown live x)

-- a further period belongs to the run, and has a number
abbrev pub is_part : Run → Lack → Bool
is_part r x = nat_lt 0 x.count && joins r x

-- the open run, where a further period ends it
unfoldable pub ended : Option Run → Lack → List Run
ended None x = []
ended (Some r) x = if is_part r x then [] else r ∷ []

-- the run that is open at the end
abbrev pub last_run : Option Run → List Run
last_run None = []
last_run (Some r) = r ∷ []

-- the runs of periods, before which a run may be open
abbrev pub runs_from : Option Run → List Lack → List Run
runs_from live [] = last_run live
runs_from live (x ∷ xs) = ended live x ++ runs_from (next_open live x) xs

-- periods in a row with the same number are one run; periods without a number belong to none
abbrev pub runs_of : List Lack → List Run
runs_of xs = runs_from None xs
