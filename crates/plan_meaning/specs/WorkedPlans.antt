-- Worked plans: shifts of a shop with their prices, and times and hours of a ward and of a kiosk.
use Rattle.std.specs.Prelude.{ℕ, ◌≡◌, ◌+◌, ◌*◌, Bool, true, false, None, Some, [], ◌∷◌, codes}
use Rattle.plan_meaning.specs.declared.plan.Duty.{Duty}
use Rattle.plan_meaning.specs.declared.plan.Lengths.{Lengths}
use Rattle.plan_meaning.specs.declared.plan.Part.TheVariants.{Pause, Work}
use Rattle.plan_meaning.specs.declared.plan.Plan.{Plan}
use Rattle.plan_meaning.specs.declared.plan.PlanCode.{PlanCode}
use Rattle.plan_meaning.specs.declared.plan.PlanDay.{PlanDay}
use Rattle.plan_meaning.specs.declared.plan.Time.{Time}
use Rattle.plan_meaning.specs.Times.{begin_behind, end_behind, periods}
use Rattle.plan_meaning.specs.Shifts.{IsShiftBy, letter_hour}

-- a time of the day on which the plan's day begins, or in the first 24 hours; and of the next day
abbrev pub clock : ℕ → ℕ → Time
clock h min = record { minute = h * 60 + min; next_day = false }

abbrev pub next : ℕ → ℕ → Time
next h min = record { minute = h * 60 + min; next_day = true }

abbrev pub lengths : ℕ → ℕ → Lengths
lengths a b = record { least = a; greatest = b }

-- a code of work, or a pause, whose words are left out
abbrev pub line : ℕ → Bool → ℕ → ℕ → ℕ → PlanCode
line c work a b hour = record { code = c; work = work; lasts = lengths a b; hour = hour; words = [] }

-- Full 8:00 9:00 20.00 = work m 12:00 14:00 work begin 9:00 13:00
abbrev pub full : Duty
full = record {
  line = 10;
  name = codes "Full";
  lasts = lengths 480 540;
  cost = 2000;
  parts = Work (codes "tcs") ∷ Pause 109 (Some (record { from = clock 12 0; to = clock 14 0 }))
      ∷ Work (codes "tcs") ∷ [];
  begins = Some (record { from = clock 9 0; to = clock 13 0 });
  ends = None;
  stretch = None;
  plus = 0;
}

-- Part 3:00 5:00 12.00 = work
abbrev pub part : Duty
part = record {
  line = 11;
  name = codes "Part";
  lasts = lengths 180 300;
  cost = 1200;
  parts = Work (codes "tcs") ∷ [];
  begins = None;
  ends = None;
  stretch = None;
  plus = 0;
}

-- A shop from 9:00 to 21:00 by hours, whose till (t), counter (c) and shelves (s) last 2:00 to 5:00 and cost
-- 15.00 an
-- hour, with a meal (m) of an hour. A change costs 1.00, and a stretch lasts 2:00 to 5:00.
abbrev pub shop : Plan
shop = record {
  title = [];
  day = record { begin = 540; end = clock 21 0; minutes = 60 };
  money = Some (record { name = codes "EUR"; decimals = 2 });
  codes = line 116 true 120 300 1500 ∷ line 99 true 120 300 1500 ∷ line 115 true 120 300 1500
      ∷ line 109 false 60 60 0 ∷ [];
  extras = [];
  change = Some 100;
  stretch = lengths 120 300;
  starts = None;
  duties = full ∷ part ∷ [];
  staff = record { name = None; least = 2; greatest = 4; words = [] } ∷ [];
  needs = record { code = 116; missing = 6000; needless = 500 } ∷ [];
}

-- the cheapest and the dearest shifts of both lines, as a planner would count them
pub record WorkedShop : Type 0 where
  -- 12:00 counter, 14:00 meal, 15:00 counter, 20:00 home: 20.00 and 7 hours
  pub cheapest_full : IsShiftBy shop full (codes "...ccmccccc.") 12500
  -- 10:00 counter, 12:00 shelves, 14:00 meal, 15:00 counter, 17:00 shelves, 19:00 home: 20.00, 8 hours, 2
  -- changes
  pub dearest_full : IsShiftBy shop full (codes ".ccssmccss..") 14200
  -- 18:00 counter, 21:00 home
  pub cheapest_part : IsShiftBy shop part (codes ".........ccc") 5700
  -- 16:00 counter, 19:00 shelves, 21:00 home
  pub dearest_part : IsShiftBy shop part (codes ".......cccss") 8800

-- a ward's day from 6:00 to 7:00 of the next day, by half-hours; and one of 24 hours
abbrev pub ward_day : PlanDay
ward_day = record { begin = 360; end = next 7 0; minutes = 30 }

abbrev pub round_day : PlanDay
round_day = record { begin = 360; end = clock 6 0; minutes = 30 }

abbrev pub ward : Plan
ward = record shop { day = ward_day }

-- A kiosk from 7:00 to 22:00 by half-hours: the kiosk (k) and a break (p) cost 15.00 an hour, a meal (m)
-- nothing; from
-- 20:00 to 22:00 the kiosk costs 3.00 more.
abbrev pub kiosk : Plan
kiosk = record shop {
  day = record { begin = 420; end = clock 22 0; minutes = 30 };
  codes = line 107 true 60 240 1500 ∷ line 112 false 30 30 1500 ∷ line 109 false 30 60 0 ∷ [];
  extras = record { code = 107; times = record { from = clock 20 0; to = clock 22 0 }; hour = 300 } ∷ [];
}

pub record WorkedTimes : Type 0 where
  -- 50 periods, of which the 48th ends at 6:00 of the next day; 2:00 and 2:00 of the next day are one time
  pub ward_periods : periods ward ≡ 50
  pub ward_ends : end_behind ward_day (next 6 0) ≡ 48 * 30
  pub ward_night : begin_behind ward_day (clock 2 0) ≡ begin_behind ward_day (next 2 0)
  -- from 6:00 to 6:00 are 24 hours; as a begin 6:00 is the first period's
  pub round_length : end_behind round_day (clock 6 0) ≡ 1440
  pub round_begin : begin_behind round_day (clock 6 0) ≡ 0
  -- midnight as an end and as a begin
  pub midnight_end : end_behind round_day (clock 24 0) ≡ 1080
  pub midnight_begin : begin_behind round_day (clock 0 0) ≡ 1080
  -- by a line with 2.40 plus: the kiosk at 19:30 and at 20:00, a paid break, a meal
  pub kiosk_before : letter_hour kiosk 240 107 750 ≡ 1740
  pub kiosk_late : letter_hour kiosk 240 107 780 ≡ 2040
  pub break_paid : letter_hour kiosk 240 112 780 ≡ 1740
  pub meal_unpaid : letter_hour kiosk 240 109 780 ≡ 0
