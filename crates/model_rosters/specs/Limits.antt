-- Cells within the limits.
use Rattle.std.specs.Prelude.{◌≤◌}
use Rattle.model_rosters.specs.declared.grammar.Grammar.{Grammar}
use Rattle.model_rosters.specs.declared.instance.Cell.{Cell}
use Rattle.model_rosters.specs.Demands.{IsWork}
use Rattle.model_rosters.specs.declared.instance.Cut.{Cut}

-- the numbers of a cell are small
pub record IsLimitedCell (c : Cell) : Type 0 where
  pub need : c.need ≤ 64
  pub under : c.under ≤ 10000
  pub over : c.over ≤ 10000
  pub floor : c.floor ≤ 64
  pub ceiling : c.ceiling ≤ 64

-- a work code in a period of the day, with small numbers
pub record IsDayCell (g : Grammar) (c : Cell) : Type 0 where
  pub work : IsWork g c.code
  pub first : 1 ≤ c.period
  pub last : c.period ≤ g.periods
  pub limited : IsLimitedCell c

-- at most 63 trees are counted by a cut
abbrev pub IsSmallCut : Cut → Type 0
IsSmallCut c = c.b ≤ 63
