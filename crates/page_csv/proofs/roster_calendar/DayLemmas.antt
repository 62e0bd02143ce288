-- The next day has the next number.
use Rattle.std.proofs.Common.{◌≡◌, ℕ, zero, suc, ◌+◌, ◌-◌, ◌<◌, ◌≤◌, Bool, true, false, cond, eqb, ltb, refl, sym, ap, ◌∙◌, arith}
use Rattle.std.specs.Prelude.{ℤ, pos, ◌+ℤ◌, ◌-ℤ◌}
use Rattle.std.proofs.lemmas.Bool.{ltb-true, ltb-false}
use Rattle.std.proofs.lemmas.Int.{ints}
use Rattle.jiff_core.specs.Calendar.{days_from_civil, days_in_month, days_in_year, days_of_months, days_of_years, day_count, is_leap_year}
use Rattle.page_csv.specs.roster_calendar.Dates.{month_days, next_day, next_year}
use Rattle.page_csv.specs.roster_calendar.DayNumbers.{IsDay, day_number}
use Rattle.page_csv.specs.declared.roster_calendar.date.Date.{Date}

-- one day more is one more
one_more : (y m d y2 m2 d2 : ℕ) → day_count (pos y2) m2 d2 ≡ day_count (pos y) m d + 1
    → days_from_civil (pos y2) m2 d2 ≡ days_from_civil (pos y) m d +ℤ pos 1
unfolding days_from_civil
one_more y m d y2 m2 d2 e =
    let first = day_count (pos 1970) 1 1 in
    ap (λ (n : ℕ). pos n -ℤ pos first) e ∙ (omega (arith, ints))

-- the number of a day from the start of the count
count_is : (y m d : ℕ)
    → day_count (pos y) m d ≡ days_of_years (y + 10000) + ((days_of_months (pos y) (m - 1) + d) - 1)
unfolding day_count
count_is y m d = refl

no_months : (y : ℤ) → days_of_months y 0 ≡ 0
unfolding days_of_months
no_months y = refl

one_month : (y : ℤ) (m : ℕ) → days_of_months y (suc m) ≡ days_of_months y m + days_in_month y (suc m)
unfolding days_of_months
one_month y m = refl

one_year : (y : ℕ) → days_of_years (suc y) ≡ days_of_years y + days_in_year (pos y -ℤ pos 10000)
unfolding days_of_years
one_year y = refl

-- within a month
same_month : (y m d : ℕ) → 1 ≤ d → day_count (pos y) m (d + 1) ≡ day_count (pos y) m d + 1
same_month y m d some =
    let after = count_is y m (d + 1) in let before = count_is y m d in omega (arith, after, before, some)

-- at the end of a month
month_end : (y m d : ℕ) → 1 ≤ m → d ≡ month_days y m → 1 ≤ d → day_count (pos y) (m + 1) 1 ≡ day_count (pos y) m d + 1
month_end y zero d some last more = absurd (omega (arith, some))
month_end y (suc m) d some last more =
    let on : suc m + 1 - 1 ≡ suc m = omega arith in let back : suc m - 1 ≡ m = omega arith in
    let after = rw on at (count_is y (suc m + 1) 1) in let before = rw back at (count_is y (suc m) d) in
    let step = one_month (pos y) m in
    omega (arith, after, before, step, last, more)

-- the months make the year
months_of_year : (y : ℤ) (j : Bool) → is_leap_year y ≡ j → days_of_months y 12 ≡ days_in_year y
unfolding days_of_months
months_of_year y true e = rw e refl
months_of_year y false e = rw e refl

year_step : (y : ℕ) → days_of_years (y + 1 + 10000) ≡ days_of_years (y + 10000) + days_in_year (pos y)
year_step y =
    let next : y + 1 + 10000 ≡ suc (y + 10000) = omega arith in
    let same : pos (y + 10000) -ℤ pos 10000 ≡ pos y = omega (arith, ints) in
    ap days_of_years next ∙ one_year (y + 10000) ∙ ap (λ (z : ℤ). days_of_years (y + 10000) + days_in_year z) same

-- at the end of a year
year_end : (y d : ℕ) → d ≡ month_days y 12 → 1 ≤ d → day_count (pos (y + 1)) 1 1 ≡ day_count (pos y) 12 d + 1
year_end y d last more =
    let after = count_is (y + 1) 1 1 in let before = count_is y 12 d in let step = year_step y in
    let none = no_months (pos (y + 1)) in let months = months_of_year (pos y) (is_leap_year (pos y)) refl in
    let december = one_month (pos y) 11 in
    omega (arith, after, before, step, none, months, december, last, more)

month_cases : (d : Date) → IsDay d → d.day ≡ month_days d.year d.month → (j : Bool) → ltb d.month 12 ≡ j
    → day_number (cond j (record { year = d.year; month = d.month + 1; day = 1 }) (record { year = next_year d.year; month = 1; day = 1 }))
    ≡ day_number d +ℤ pos 1
month_cases d h last true e = one_more d.year d.month d.day d.year (d.month + 1) 1 (month_end d.year d.month d.day h.month last h.day)
month_cases d h last false e =
    let twelve : d.month ≡ 12 = omega (arith, ltb-false d.month 12 e, h.months) in
    let year : next_year d.year ≡ d.year + 1 = omega (arith, h.year) in
    rw year (one_more d.year d.month d.day (d.year + 1) 1 1 (rw twelve (year_end d.year d.day (rw twelve at last) h.day)))

day_cases : (d : Date) → IsDay d → (j : Bool) → ltb d.day (month_days d.year d.month) ≡ j
    → day_number (cond j (record { year = d.year; month = d.month; day = d.day + 1 })
    (cond (ltb d.month 12) (record { year = d.year; month = d.month + 1; day = 1 }) (record { year = next_year d.year; month = 1; day = 1 })))
    ≡ day_number d +ℤ pos 1
day_cases d h true e = one_more d.year d.month d.day d.year d.month (d.day + 1) (same_month d.year d.month d.day h.day)
day_cases d h false e =
    let last : d.day ≡ month_days d.year d.month = omega (arith, ltb-false d.day (month_days d.year d.month) e, h.days) in
    month_cases d h last (ltb d.month 12) refl

pub one_later : (d : Date) → IsDay d → day_number (next_day d) ≡ day_number d +ℤ pos 1
unfolding next_day
one_later d h = day_cases d h (ltb d.day (month_days d.year d.month)) refl
