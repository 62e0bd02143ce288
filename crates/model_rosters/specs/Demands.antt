-- What a day asks of work codes, and the cells that this makes.
use Rattle.std.specs.Prelude.{ℕ, ◌≡◌, ◌≢◌, ◌≤◌, ◌+◌, true, Some, List, [], ◌∷◌, ◌++◌, length, slice_get}
use Rattle.model_rosters.specs.declared.grammar.CodeDef.{CodeDef}
use Rattle.model_rosters.specs.declared.grammar.Grammar.{Grammar}
use Rattle.model_rosters.specs.declared.instance.Cell.{Cell}
use Rattle.model_rosters.specs.Folds.{Each}

-- how many employees one period asks for
pub record PeriodDemand : Type 0 where
  pub need : ℕ
  pub floor : ℕ
  pub ceiling : ℕ

-- a demanded code, what a difference costs, and what each period asks for in order
pub record Demand : Type 0 where
  pub code : ℕ
  pub under : ℕ
  pub over : ℕ
  pub periods : List PeriodDemand

abbrev pub demand_cell : Demand → ℕ → PeriodDemand → Cell
demand_cell d period p = record {
  code = d.code;
  period = period;
  need = p.need;
  under = d.under;
  over = d.over;
  floor = p.floor;
  ceiling = p.ceiling;
}

-- the cells of what is asked from a period on
abbrev pub cells_from : Demand → ℕ → List PeriodDemand → List Cell
cells_from d period [] = []
cells_from d period (p ∷ ps) = demand_cell d period p ∷ cells_from d (period + 1) ps

abbrev pub demand_cells : Demand → List Cell
demand_cells d = cells_from d 1 d.periods

-- the cells of each code in order of periods, one code after another
abbrev pub all_cells : List Demand → List Cell
all_cells [] = []
all_cells (d ∷ ds) = demand_cells d ++ all_cells ds

-- within the limits of a period
pub record IsPeriodDemand (p : PeriodDemand) : Type 0 where
  pub need : p.need ≤ 64
  pub floor : p.floor ≤ 64
  pub ceiling : p.ceiling ≤ 64

-- the code is one for work
abbrev pub IsWork : Grammar → ℕ → Type 0
IsWork g c = (d : CodeDef) × (slice_get g.codes c ≡ Some d) × (d.work ≡ true)

-- a demand of a work code for each period of the day, within the limits
pub record IsDemand (g : Grammar) (d : Demand) : Type 0 where
  pub work : IsWork g d.code
  pub under : d.under ≤ 10000
  pub over : d.over ≤ 10000
  pub whole : length d.periods ≡ g.periods
  pub each : Each IsPeriodDemand d.periods

-- no code is demanded twice
abbrev pub AreOnce : List Demand → Type 0
AreOnce [] = Unit {0}
AreOnce (d ∷ ds) = Each (λ (e : Demand). e.code ≢ d.code) ds × AreOnce ds

-- the cells of some demands
pub record AreCells (g : Grammar) (cells : List Cell) : Type 0 where
  pub demands : List Demand
  pub each : Each (IsDemand g) demands
  pub once : AreOnce demands
  pub made : cells ≡ all_cells demands

-- the cells of one demand
pub record IsOneDemand (g : Grammar) (cells : List Cell) : Type 0 where
  pub demand : Demand
  pub sound : IsDemand g demand
  pub made : cells ≡ demand_cells demand

-- a cell of a demand in a period, within the limits
pub record IsCellOf (code under over period : ℕ) (c : Cell) : Type 0 where
  pub code_is : c.code ≡ code
  pub under_is : c.under ≡ under
  pub over_is : c.over ≡ over
  pub period_is : c.period ≡ period
  pub need : c.need ≤ 64
  pub floor : c.floor ≤ 64
  pub ceiling : c.ceiling ≤ 64
