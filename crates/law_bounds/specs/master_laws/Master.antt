-- The master of a node: the linear program over all trees of the day.
use Rattle.std.specs.Prelude.{ℕ, pos, neg_ℤ, ◌<◌, ◌≡◌, Bool, true, false, List, length}
use Rattle.model_rosters.specs.declared.instance.Cut.{Cut}
use Rattle.model_rosters.specs.declared.instance.Instance.{Instance}
use Rattle.model_rosters.specs.Trees.{Parts, IsDayTree}
use Rattle.model_rosters.specs.Arcs.{cost}
use Rattle.law_bounds.specs.linear_programs.Program.{Column, Program, unit_vector}
use Rattle.law_bounds.specs.BestPrices.{artificial_cost}
use Rattle.law_bounds.specs.master_laws.Rows.{Sense, about, at_least, at_most, Row, rows_of, number_at, HoldsAt}

-- The columns: what is missing in row r (short at a cell, artificial where at least the right side is
-- asked), or the slack of a row that asks at most its right side; what is beyond in row r; and a tree.
pub data MasterKey : Type 0 where
  missing : ℕ → MasterKey
  beyond : ℕ → MasterKey
  tree : Parts → MasterKey

-- what a unit of a row's first column costs, k being the cost of an artificial one
abbrev pub missing_cost : ℕ → Sense → ℕ
missing_cost k (about under over) = under
missing_cost k at_least = k
missing_cost k at_most = 0

abbrev pub beyond_cost : Sense → ℕ
beyond_cost (about under over) = over
beyond_cost at_least = 0
beyond_cost at_most = 0

-- the row has a column for what is beyond
abbrev pub has_beyond : Sense → Bool
has_beyond (about under over) = true
has_beyond at_least = true
has_beyond at_most = false

abbrev pub HasBeyond : Row → Type 0
HasBeyond x = has_beyond x.sense ≡ true

-- the row's first column is an artificial one
abbrev pub is_artificial : Sense → Bool
is_artificial (about under over) = false
is_artificial at_least = true
is_artificial at_most = false

abbrev pub IsArtificial : Row → Type 0
IsArtificial x = is_artificial x.sense ≡ true

-- the column of each key, artificial ones costing k
abbrev pub column_of : Instance → ℕ → List Row → MasterKey → Column
column_of i k rows (missing r) =
    record { entry = unit_vector r; cost = number_at (λ x. pos (missing_cost k x.sense)) rows r }
column_of i k rows (beyond r) =
    record { entry = λ j. neg_ℤ (unit_vector r j); cost = number_at (λ x. pos (beyond_cost x.sense)) rows r }
column_of i k rows (tree t) =
    record { entry = number_at (λ x. pos (x.brings t)) rows; cost = pos (cost i.grammar t) }

abbrev pub Belongs : Instance → List Row → MasterKey → Type 0
Belongs i rows (missing r) = r < length rows
Belongs i rows (beyond r) = HoldsAt HasBeyond rows r
Belongs i rows (tree t) = IsDayTree i.grammar t

abbrev pub program_of : Instance → List Row → Program MasterKey
program_of i rows = record {
  rows = length rows;
  right = number_at (λ x. pos x.right) rows;
  unit = missing;
  column = column_of i (artificial_cost i) rows;
  belongs = Belongs i rows;
}

-- the master of the node at a path of cuts, base cuts first
abbrev pub master : Instance → List Cut → Program MasterKey
master i cuts = program_of i (rows_of i cuts)
