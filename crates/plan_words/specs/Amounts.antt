-- Amounts, in units: the last decimal of the money.
use Rattle.std.specs.Prelude.{ℕ, zero, suc, ◌+◌, ◌-◌, ◌*◌, ◌/◌, ◌%◌, Bool, true, ◌&&◌, not, nat_eq, nat_lt, List, [], ◌∷◌, take, drop, length, Result, Ok, Err, if◌then◌else◌}
use Rattle.std.specs.List.{list_all, position_or_len}
use Rattle.text_lines.specs.Fields.{number_at}
use Rattle.text_lines.specs.Numbers.{is_digit}
use Rattle.text_lines.specs.Steps.{◌>>=◌}
use Rattle.plan_words.specs.declared.fault.WordFault.{WordFault}
use Rattle.plan_words.specs.declared.fault.WordFault.TheVariants.{Decimals, NoAmount, PeriodUnits, Uneven, Units}

abbrev pub is_point : ℕ → Bool
is_point b = nat_eq b 46

-- nothing, or a point and digits
unfoldable pub are_decimals : List ℕ → Bool
are_decimals [] = true
are_decimals (point ∷ digits) = nat_lt 0 (length digits) && list_all is_digit digits

-- how many digits stand behind the point
unfoldable pub decimal_count : List ℕ → ℕ
decimal_count [] = 0
decimal_count (point ∷ digits) = length digits

-- how many units a whole has at so many decimals
unfoldable pub scale : ℕ → ℕ
scale zero = 1
scale (suc zero) = 10
scale (suc (suc zero)) = 100
scale (suc (suc (suc n))) = 1000

-- how many thousandths a unit has at so many decimals
unfoldable pub scale_left : ℕ → ℕ
scale_left zero = 1000
scale_left (suc zero) = 100
scale_left (suc (suc zero)) = 10
scale_left (suc (suc (suc n))) = 1

-- the thousandths that a point and one to three digits say
unfoldable pub thousandths : List ℕ → ℕ
thousandths (point ∷ a ∷ []) = 100 * (a - 48)
thousandths (point ∷ a ∷ b ∷ []) = 100 * (a - 48) + 10 * (b - 48)
thousandths (point ∷ a ∷ b ∷ c ∷ []) = 100 * (a - 48) + 10 * (b - 48) + (c - 48)
thousandths _ = 0

-- the units of a whole number and of what stands behind it
unfoldable pub units_of : ℕ → ℕ → List ℕ → Result ℕ WordFault
units_of decimals whole point =
    if not (are_decimals point) then Err NoAmount
    else (if nat_lt decimals (decimal_count point) then Err (Decimals (decimal_count point) decimals)
    else Ok (whole * scale decimals + thousandths point / scale_left decimals))

-- at most seven digits, and what stands behind them
unfoldable pub amount_of : ℕ → List ℕ → List ℕ → Result ℕ WordFault
amount_of decimals whole point =
    number_at NoAmount NoAmount 0 9999999 whole >>= λ n. units_of decimals n point

-- the units that a word says
unfoldable pub amount_at : ℕ → List ℕ → Result ℕ WordFault
amount_at decimals w =
    amount_of decimals (take (position_or_len is_point w) w) (drop (position_or_len is_point w) w)

-- what a line or a change costs
unfoldable pub cost_at : ℕ → List ℕ → Result ℕ WordFault
cost_at decimals w = amount_at decimals w >>= λ units. if nat_lt 10000 units then Err
    (Units units) else Ok units

-- The least units an hour that come out even in periods of so many minutes: 60 without what the minutes have of
-- its factors 2, 3 and 5.
abbrev pub by_twos : ℕ → ℕ
by_twos minutes = if nat_eq (minutes % 4) 0 then 15 else (if nat_eq (minutes % 2) 0 then 30 else 60)

abbrev pub by_threes : ℕ → ℕ
by_threes minutes = if nat_eq (minutes % 3) 0 then by_twos minutes / 3 else by_twos minutes

abbrev pub even_step : ℕ → ℕ
even_step minutes = if nat_eq (minutes % 5) 0 then by_threes minutes / 5 else by_threes minutes

-- units an hour that do not come out even, with those next to them that do
abbrev pub uneven : ℕ → ℕ → ℕ → WordFault
uneven decimals minutes units =
    Uneven minutes decimals (units - units % even_step minutes) (units - units % even_step minutes + even_step minutes)

-- units an hour that come out even in a period, and are not too many there
unfoldable pub hour_of : ℕ → ℕ → ℕ → Result ℕ WordFault
hour_of decimals minutes units =
    if not (nat_eq (units * minutes % 60) 0) then Err (uneven decimals minutes units)
    else (if nat_lt 10000 (units * minutes / 60) then Err (PeriodUnits (units * minutes / 60)) else Ok units)

-- what an hour costs
unfoldable pub hour_at : ℕ → ℕ → List ℕ → Result ℕ WordFault
hour_at minutes decimals w = amount_at decimals w >>= λ units. hour_of decimals minutes units
