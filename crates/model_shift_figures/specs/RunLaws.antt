-- What runs say of periods.
use Rattle.std.specs.Prelude.{ℕ, zero, suc, ◌+◌, ◌-◌, List, [], ◌∷◌, nat_eq, if◌then◌else◌}
use Rattle.model_shift_figures.specs.declared.run.Lack.{Lack}
use Rattle.model_shift_figures.specs.declared.run.Run.{Run}

-- a code, a period and a number
pub record Period : Type 0 where
  pub code : ℕ
  pub period : ℕ
  pub count : ℕ

-- so many periods from one on
abbrev pub periods_from : ℕ → ℕ → ℕ → ℕ → List Period
periods_from code k count zero = []
periods_from code k count (suc n) =
    record { code = code; period = k; count = count } ∷ periods_from code (k + 1) count n

-- the periods of a run
abbrev pub run_periods : Run → List Period
run_periods r = periods_from r.code r.first r.count (r.last + 1 - r.first)

-- a period, where it has a number
abbrev pub lack_periods : Lack → List Period
lack_periods x =
    if nat_eq x.count 0 then [] else record { code = x.code; period = x.period; count = x.count } ∷ []
