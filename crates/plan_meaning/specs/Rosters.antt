-- Which rosters are those of a plan and a forecast, and what they cost.
use Rattle.std.specs.Prelude.{ℕ, zero, suc, ◌≡◌, ◌≤◌, ◌+◌, ◌-◌, ◌*◌, ◌/◌, Bool, false, true, cond, nat_eq, None, Option, Some, List, [], ◌∷◌, slice_index_or}
use Rattle.model_rosters.specs.Coverage.{has_at}
use Rattle.model_rosters.specs.Duties as duties
use Rattle.model_rosters.specs.Folds.{sum_n, count, Each, In}
use Rattle.plan_meaning.specs.declared.forecast.Column.{Column}
use Rattle.plan_meaning.specs.declared.forecast.Forecast.{Forecast}
use Rattle.plan_meaning.specs.declared.plan.Need.{Need}
use Rattle.plan_meaning.specs.declared.plan.Plan.{Plan}
use Rattle.plan_meaning.specs.declared.plan.Staff.{Staff}
use Rattle.plan_meaning.specs.Times.{moment, periods}
use Rattle.plan_meaning.specs.Shifts.{IsPriceOf}

-- a staff line with its number: the line without a name is 0, those with names count from 1
pub record NumberedStaff : Type 0 where
  pub number : ℕ
  pub line : Staff

abbrev pub staff_from : ℕ → List Staff → List NumberedStaff
staff_from k [] = []
staff_from k (s ∷ ss) = record { number = k; line = s } ∷ staff_from (k + 1) ss

abbrev pub has_name : Staff → Bool
has_name s = elim s.name [ None ↦ false | Some name ↦ true ]

abbrev pub first_number : List Staff → ℕ
first_number [] = 0
first_number (s ∷ ss) = cond (has_name s) 1 0

abbrev pub staff_lines : Plan → List NumberedStaff
staff_lines p = staff_from (first_number p.staff) p.staff

-- the word is a shift of its staff line's duty name, or of any line where it names none, at this price
pub record IsStaffPrice (p : Plan) (x : duties.Duty) (price : ℕ) : Type 0 where
  pub staff : NumberedStaff
  pub listed : In staff (staff_lines p)
  pub numbered : staff.number ≡ x.team
  pub priced : IsPriceOf p staff.line.name x.word price

-- each word is one of its staff line, and these are the prices in order
abbrev pub ArePrices : Plan → List duties.Duty → List ℕ → Type 0
ArePrices p [] [] = Unit {0}
ArePrices p (x ∷ xs) (c ∷ cs) = IsStaffPrice p x c × ArePrices p xs cs
ArePrices p [] (c ∷ cs) = ⊥
ArePrices p (x ∷ xs) [] = ⊥

-- as many employees of the staff line work as it says
pub record HasHeads (xs : List duties.Duty) (s : NumberedStaff) : Type 0 where
  pub least : s.line.least ≤ count (λ (x : duties.Duty). nat_eq x.team s.number) xs
  pub greatest : count (λ (x : duties.Duty). nat_eq x.team s.number) xs ≤ s.line.greatest

-- a need line, and what the forecast asks of its code
pub record Asked : Type 0 where
  pub need : Need
  pub column : Column

abbrev pub asked : List Need → List Column → List Asked
asked [] cs = []
asked (n ∷ ns) [] = []
asked (n ∷ ns) (c ∷ cs) = record { need = n; column = c } ∷ asked ns cs

-- the step that holds the period behind so many others, from 0
abbrev pub step_at : Plan → Forecast → ℕ → ℕ
step_at p f passed = moment p passed / f.step

-- a number of each step, or the same everywhere
abbrev pub number_at : Option (List ℕ) → ℕ → ℕ → ℕ
number_at None other step = other
number_at (Some numbers) other step = slice_index_or numbers step other

-- how many employees are needed, must be there, and may be there, in the period behind so many others
abbrev pub needed : Plan → Forecast → Column → ℕ → ℕ
needed p f c passed = number_at (Some c.need) 0 (step_at p f passed)

abbrev pub least_there : Plan → Forecast → Column → ℕ → ℕ
least_there p f c passed = number_at c.least 0 (step_at p f passed)

abbrev pub most_there : Plan → Forecast → Column → ℕ → ℕ
most_there p f c passed = number_at c.most 64 (step_at p f passed)

-- how many of the employees have the code in the period behind so many others
abbrev pub there : ℕ → ℕ → List duties.Duty → ℕ
there code passed xs = count (λ (x : duties.Duty). has_at code x.word passed) xs

-- the numbers from this one on, so many
abbrev pub numbers_from : ℕ → ℕ → List ℕ
numbers_from n zero = []
numbers_from n (suc k) = n ∷ numbers_from (n + 1) k

-- each period by how many are before it
abbrev pub all_passed : Plan → List ℕ
all_passed p = numbers_from 0 (periods p)

-- as many have the code in each period as must and may
pub record IsCovered (p : Plan) (f : Forecast) (xs : List duties.Duty) (a : Asked) (passed : ℕ) : Type 0 where
  pub least : least_there p f a.column passed ≤ there a.need.code passed xs
  pub most : there a.need.code passed xs ≤ most_there p f a.column passed

-- a roster of the plan and the forecast, whose shifts have these prices
pub record IsRoster (p : Plan) (f : Forecast) (xs : List duties.Duty) (prices : List ℕ) : Type 0 where
  pub shifts : ArePrices p xs prices
  pub heads : Each (HasHeads xs) (staff_lines p)
  pub coverage : Each (λ (a : Asked). Each (IsCovered p f xs a) (all_passed p)) (asked p.needs f.columns)

-- what an hour of what is missing and needless costs in the period behind so many others
abbrev pub difference_hour : Plan → Forecast → List duties.Duty → Asked → ℕ → ℕ
difference_hour p f xs a passed =
    a.need.missing * (needed p f a.column passed - there a.need.code passed xs)
    + a.need.needless * (there a.need.code passed xs - needed p f a.column passed)

-- ... together, in all periods and for all codes
abbrev pub difference_hours : Plan → Forecast → List duties.Duty → ℕ
difference_hours p f xs =
    sum_n (λ (a : Asked). sum_n (difference_hour p f xs a) (all_passed p)) (asked p.needs f.columns)

-- a roster of the plan and the forecast costs this much: the prices, and what each period's difference costs
pub record Costs (p : Plan) (f : Forecast) (xs : List duties.Duty) (amount : ℕ) : Type 0 where
  pub prices : List ℕ
  pub roster : IsRoster p f xs prices
  pub total : 60 * amount ≡ 60 * sum_n (λ c. c) prices + p.day.minutes * difference_hours p f xs
