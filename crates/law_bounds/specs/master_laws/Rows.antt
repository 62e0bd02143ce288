-- The rows of a node's linear program, its master.
use Rattle.std.specs.Prelude.{ℕ, zero, suc, ℤ, pos, ◌+◌, Bool, cond, nat_lt, List, [], ◌∷◌, ◌++◌}
use Rattle.model_rosters.specs.declared.grammar.ArcKey.{ArcKey}
use Rattle.model_rosters.specs.declared.instance.Cell.{Cell}
use Rattle.model_rosters.specs.declared.instance.Cut.{Cut}
use Rattle.model_rosters.specs.declared.instance.Side.{Side}
use Rattle.model_rosters.specs.declared.instance.Side.TheVariants.{Low, High}
use Rattle.model_rosters.specs.declared.instance.Instance.{Instance}
use Rattle.model_rosters.specs.Trees.{Parts}
use Rattle.model_rosters.specs.Folds.{count}
use Rattle.model_rosters.specs.Arcs.{letters, arcs, same_arc}
use Rattle.model_rosters.specs.Coverage.{is_at}

-- How a row is met: about its right side, where each unit missing and each unit beyond has a cost; at
-- least the right side, where a unit missing has an artificial column; or at most the right side.
pub data Sense : Type 0 where
  about : ℕ → ℕ → Sense
  at_least : Sense
  at_most : Sense

-- a row: its right side, how it is met, and what a tree brings to it
pub record Row : Type 0 where
  pub right : ℕ
  pub sense : Sense
  pub brings : Parts → ℕ

-- how often a tree has the cell's letter
abbrev pub cell_count : Cell → Parts → ℕ
cell_count c t = count (is_at c) (letters 1 t)

-- how often a tree has the arc
abbrev pub tree_arcs : ArcKey → Parts → ℕ
tree_arcs a t = count (same_arc a) (arcs 1 t)

abbrev pub cell_row : Cell → Row
cell_row c = record { right = c.need; sense = about c.under c.over; brings = cell_count c }

abbrev pub floor_row : Cell → Row
floor_row c = record { right = c.floor; sense = at_least; brings = cell_count c }

abbrev pub ceiling_row : Cell → Row
ceiling_row c = record { right = c.ceiling; sense = at_most; brings = cell_count c }

-- at least n trees
abbrev pub least_row : ℕ → Row
least_row n = record { right = n; sense = at_least; brings = λ t. 1 }

-- at most n trees
abbrev pub most_row : ℕ → Row
most_row n = record { right = n; sense = at_most; brings = λ t. 1 }

abbrev pub side_row : Side → ℕ → ArcKey → Row
side_row Low b a = record { right = b; sense = at_most; brings = tree_arcs a }
side_row High b a = record { right = b + 1; sense = at_least; brings = tree_arcs a }

abbrev pub cut_row : Cut → Row
cut_row c = side_row c.side c.b c.arc

-- a floor above 0, and a ceiling below the 64 employees of a day, have a row
abbrev pub has_floor : Cell → Bool
has_floor c = nat_lt 0 c.floor

abbrev pub has_ceiling : Cell → Bool
has_ceiling c = nat_lt c.ceiling 64

abbrev pub cell_rows : List Cell → List Row
cell_rows [] = []
cell_rows (c ∷ cs) = cell_row c ∷ cell_rows cs

abbrev pub floor_rows : List Cell → List Row
floor_rows [] = []
floor_rows (c ∷ cs) = cond (has_floor c) (floor_row c ∷ []) [] ++ floor_rows cs

abbrev pub ceiling_rows : List Cell → List Row
ceiling_rows [] = []
ceiling_rows (c ∷ cs) = cond (has_ceiling c) (ceiling_row c ∷ []) [] ++ ceiling_rows cs

abbrev pub cut_rows : List Cut → List Row
cut_rows [] = []
cut_rows (c ∷ cs) = cut_row c ∷ cut_rows cs

-- the rows of the node at a path of cuts: of the cells, of floors, of ceilings, of the heads and of the cuts
abbrev pub rows_of : Instance → List Cut → List Row
rows_of i cuts = cell_rows i.cells ++ (floor_rows i.cells
    ++ (ceiling_rows i.cells ++ (least_row i.heads_min ∷ most_row i.heads_max ∷ cut_rows cuts)))

-- a number of row r of a list, 0 where there is no such row
abbrev pub number_at : (Row → ℤ) → List Row → ℕ → ℤ
number_at f [] r = pos 0
number_at f (x ∷ rows) zero = f x
number_at f (x ∷ rows) (suc r) = number_at f rows r

-- row r of a list exists and has the property
abbrev pub HoldsAt : (Row → Type 0) → List Row → ℕ → Type 0
HoldsAt P [] r = ⊥
HoldsAt P (x ∷ rows) zero = P x
HoldsAt P (x ∷ rows) (suc r) = HoldsAt P rows r
