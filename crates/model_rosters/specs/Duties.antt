-- One employee's day.
use Rattle.std.specs.Prelude.{ℕ, List}
use Rattle.model_rosters.specs.declared.instance.Shift.{Shift}

-- the number of a team, and a word
pub record Duty : Type 0 where
  pub team : ℕ
  pub word : List ℕ

-- what a stated shift says beside its price
abbrev pub duty : Shift → Duty
duty s = record { team = s.group; word = s.word }
