-- Plans in which all lengths and times are whole periods, and amounts of an hour come out even in a period.
use Rattle.std.specs.Prelude.{ℕ, ◌≡◌, ◌≤◌, ◌<◌, ◌+◌, ◌*◌, Option, None, Some}
use Rattle.model_rosters.specs.Folds.{Each, In}
use Rattle.plan_meaning.specs.declared.plan.Duty.{Duty}
use Rattle.plan_meaning.specs.declared.plan.Extra.{Extra}
use Rattle.plan_meaning.specs.declared.plan.Lengths.{Lengths}
use Rattle.plan_meaning.specs.declared.plan.Part.{Part}
use Rattle.plan_meaning.specs.declared.plan.Part.TheVariants.{Pause, Work}
use Rattle.plan_meaning.specs.declared.plan.Plan.{Plan}
use Rattle.plan_meaning.specs.declared.plan.PlanCode.{PlanCode}
use Rattle.plan_meaning.specs.declared.plan.Times.{Times}
use Rattle.plan_meaning.specs.Times.{begin_behind, begin_minute, day_length, end_behind, moment, periods}
use Rattle.plan_meaning.specs.Shifts.{stretch_of}

abbrev pub IsMultiple : ℕ → ℕ → Type 0
IsMultiple n m = (q : ℕ) × (n ≡ q * m)

-- so many minutes are whole periods
abbrev pub IsWholeTime : Plan → ℕ → Type 0
IsWholeTime p n = IsMultiple n p.day.minutes

-- an hour's units are whole units in a period
abbrev pub IsEven : Plan → ℕ → Type 0
IsEven p hour = IsMultiple (hour * p.day.minutes) 60

-- lengths of whole periods, at least one
pub record AreWhole (p : Plan) (x : Lengths) : Type 0 where
  pub least : IsWholeTime p x.least
  pub greatest : IsWholeTime p x.greatest
  pub some : p.day.minutes ≤ x.least
  pub ordered : x.least ≤ x.greatest

pub record IsWholeCode (p : Plan) (c : PlanCode) : Type 0 where
  pub lasts : AreWhole p c.lasts
  pub hour : IsEven p c.hour

pub record IsWholeExtra (p : Plan) (e : Extra) : Type 0 where
  pub from : IsWholeTime p (begin_behind p.day e.times.from)
  pub to : IsWholeTime p (end_behind p.day e.times.to)
  pub hour : IsEven p e.hour

abbrev pub AreWholeBegins : Plan → Option Times → Type 0
AreWholeBegins p None = Unit {0}
AreWholeBegins p (Some t) = IsWholeTime p (begin_behind p.day t.from)
    × IsWholeTime p (begin_behind p.day t.to)

abbrev pub AreWholeEnds : Plan → Option Times → Type 0
AreWholeEnds p None = Unit {0}
AreWholeEnds p (Some t) = IsWholeTime p (end_behind p.day t.from) × IsWholeTime p (end_behind p.day t.to)

-- a pause is one of the plan's
abbrev pub IsWholePart : Plan → Part → Type 0
IsWholePart p (Work codes) = Unit {0}
IsWholePart p (Pause code times) = ((c : PlanCode) × In c p.codes × (c.code ≡ code)) × AreWholeBegins p times

pub record IsWholeDuty (p : Plan) (d : Duty) : Type 0 where
  pub lasts : AreWhole p d.lasts
  pub stretch : AreWhole p (stretch_of p d)
  pub begins : AreWholeBegins p d.begins
  pub ends : AreWholeEnds p d.ends
  pub parts : Each (IsWholePart p) d.parts
  pub plus : IsEven p d.plus

-- duties start every so many whole periods, where the plan says it
abbrev pub AreWholeStarts : Plan → Option ℕ → Type 0
AreWholeStarts p None = Unit {0}
AreWholeStarts p (Some starts) = IsWholeTime p starts

-- the first start by the clock is behind so many periods, and behind none where the plan says nothing of
-- starts
abbrev pub IsFirstStart : Plan → Option ℕ → ℕ → Type 0
IsFirstStart p None first = first ≡ 0
IsFirstStart p (Some starts) first =
    (moment p first < starts) × IsMultiple (begin_minute p.day + moment p first) starts

-- all of a plan is whole, and no two lines have one code
pub record IsWholePlan (p : Plan) : Type 0 where
  pub some : 1 ≤ p.day.minutes
  pub day : moment p (periods p) ≡ day_length p.day
  pub few : periods p ≤ 96
  pub codes : Each (IsWholeCode p) p.codes
  pub apart : (b c : PlanCode) → In b p.codes → In c p.codes → b.code ≡ c.code → b ≡ c
  pub extras : Each (IsWholeExtra p) p.extras
  pub starts : AreWholeStarts p p.starts
  pub first_start : (first : ℕ) × IsFirstStart p p.starts first
  pub duties : Each (IsWholeDuty p) p.duties
