-- What a bound tells of a cost.
use Rattle.std.specs.Prelude.{ℕ, ◌+◌, ◌-◌, ◌*◌, ◌/◌, nat_eq, nat_le, if◌then◌else◌}
use Rattle.model_shift_figures.specs.declared.bound.Saving.{Saving}
use Rattle.model_shift_figures.specs.declared.bound.Saving.TheVariants.{NoneLess, Unknown, AtMost}

-- how many tenths of a percent of a cost an amount is, rounded up
abbrev pub permille_of : ℕ → ℕ → ℕ
permille_of amount cost = (amount * 1000 + (cost - 1)) / cost

-- nothing below the bound is allowed; the bound 0 says nothing of a greater cost; else the difference, and how many
-- tenths of a percent of the cost it is, rounded up
unfoldable pub saving_at : ℕ → ℕ → Saving
saving_at cost bound =
    if nat_le cost bound then NoneLess
    else (if nat_eq bound 0 then Unknown else AtMost (cost - bound) (permille_of (cost - bound) cost))
