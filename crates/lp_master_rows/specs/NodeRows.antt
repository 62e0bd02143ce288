-- The rows of a node's master as numbers.
use Rattle.std.specs.Prelude.{ℕ, ℤ, suc, pos, ◌+ℤ◌, ◌≡◌, ◌<◌, ◌≤◌, ◌+◌, Bool, ◌&&◌, nat_eq, cond, Option, Some, None, IfSome, List, [], ◌∷◌, ◌++◌, length}
use Rattle.model_rosters.specs.declared.instance.Cell.{Cell}
use Rattle.model_rosters.specs.declared.instance.Cut.{Cut}
use Rattle.model_rosters.specs.declared.instance.Instance.{Instance}
use Rattle.model_rosters.specs.Arcs.{Letter}
use Rattle.model_rosters.specs.SoundInstance.{IsSoundInstance}
use Rattle.law_bounds.specs.master_laws.Rows.{Row, Sense as RowSense, about, at_least, at_most, rows_of, cell_row, floor_row, ceiling_row, has_floor, has_ceiling}
use Rattle.law_bounds.specs.master_laws.Rounding.{first_ceiling}
use Rattle.lp_master_rows.specs.declared.rows.NodeRows.{NodeRows}
use Rattle.lp_master_rows.specs.declared.rows.CellLetter.{CellLetter}
use Rattle.lp_master_rows.specs.declared.rows.BoundRows.{BoundRows}
use Rattle.lp_master_rows.specs.declared.building.Kind.{Kind}
use Rattle.lp_master_rows.specs.declared.building.Kind.TheVariants.{Need, Floor, Ceiling}
use Rattle.lp_master_rows.specs.declared.sense.Sense.{Sense}
use Rattle.lp_master_rows.specs.declared.sense.Sense.TheVariants.{About, AtLeast, AtMost}

-- the letter at its period
abbrev pub is_letter : CellLetter → Letter → Bool
is_letter c l = nat_eq c.code l.code && nat_eq c.period l.period

abbrev pub letter_of : Cell → CellLetter
letter_of c = record { code = c.code; period = c.period }

abbrev pub letters_of : List Cell → List CellLetter
letters_of [] = []
letters_of (c ∷ cs) = letter_of c ∷ letters_of cs

abbrev pub right_sides : List Row → List ℤ
right_sides [] = []
right_sides (x ∷ xs) = pos x.right ∷ right_sides xs

abbrev pub sense_of : RowSense → Sense
sense_of (about under over) = About under over
sense_of at_least = AtLeast
sense_of at_most = AtMost

abbrev pub senses_of : List Row → List Sense
senses_of [] = []
senses_of (x ∷ xs) = sense_of x.sense ∷ senses_of xs

-- the row of a kind that a cell has, if any
abbrev pub kind_row : Kind → Cell → List Row
kind_row Need c = cell_row c ∷ []
kind_row Floor c = cond (has_floor c) (floor_row c ∷ []) []
kind_row Ceiling c = cond (has_ceiling c) (ceiling_row c ∷ []) []

abbrev pub kind_rows : Kind → List Cell → List Row
kind_rows k [] = []
kind_rows k (c ∷ cs) = kind_row k c ++ kind_rows k cs

-- the cell, where it has a row of the kind
abbrev pub kind_cell : Kind → Cell → List Cell
kind_cell Need c = c ∷ []
kind_cell Floor c = cond (has_floor c) (c ∷ []) []
kind_cell Ceiling c = cond (has_ceiling c) (c ∷ []) []

abbrev pub kind_cells : Kind → List Cell → List Cell
kind_cells k [] = []
kind_cells k (c ∷ cs) = kind_cell k c ++ kind_cells k cs

-- the cells of the rows that come before those of the heads
abbrev pub row_cells : List Cell → List Cell
row_cells cs = kind_cells Need cs ++ (kind_cells Floor cs ++ kind_cells Ceiling cs)

-- the rows of the cells' floors and ceilings, those of floors from f on and those of ceilings from e on
abbrev pub bounds_from : ℕ → ℕ → List Cell → List BoundRows
bounds_from f e [] = []
bounds_from f e (c ∷ cs) =
    record { floor = cond (has_floor c) (Some f) None; ceiling = cond (has_ceiling c) (Some e) None }
    ∷ bounds_from (f + cond (has_floor c) 1 0) (e + cond (has_ceiling c) 1 0) cs

-- what a unit that is missing costs, an artificial column costing k
abbrev pub missing_price : ℤ → Sense → ℤ
missing_price k (About under over) = pos under
missing_price k AtLeast = k
missing_price k AtMost = pos 0

-- what a unit beyond costs, where there is a column for it
abbrev pub beyond_price : Sense → Option ℤ
beyond_price (About under over) = Some (pos over)
beyond_price AtLeast = Some (pos 0)
beyond_price AtMost = None

-- the rows of the bounds are below n
pub record IsBelow (n : ℕ) (b : BoundRows) : Type 0 where
  pub floor : IfSome b.floor (λ r. r < n)
  pub ceiling : IfSome b.ceiling (λ r. r < n)

-- the price of a row, 0 where there is none
abbrev pub price_in : (ℕ → ℤ) → Option ℕ → ℤ
price_in y None = pos 0
price_in y (Some r) = y r

-- the prices of cells from cell j on
abbrev pub prices_from : (ℕ → ℤ) → ℕ → List BoundRows → List ℤ
prices_from y j [] = []
prices_from y j (b ∷ bs) = (y j +ℤ price_in y b.floor +ℤ price_in y b.ceiling) ∷ prices_from y (suc j) bs

-- some rows more, of which the first have these cells
abbrev pub with_rows : NodeRows → List Cell → List Row → NodeRows
with_rows rows cs xs = record rows {
  right = rows.right ++ right_sides xs;
  senses = rows.senses ++ senses_of xs;
  letters = rows.letters ++ letters_of cs;
}

-- these are the rows of the node
pub record AreRows (i : Instance) (cuts : List Cut) (rows : NodeRows) : Type 0 where
  pub sound : IsSoundInstance i
  pub few : length (rows_of i cuts) ≤ 1500
  pub right : rows.right ≡ right_sides (rows_of i cuts)
  pub senses : rows.senses ≡ senses_of (rows_of i cuts)
  pub letters : rows.letters ≡ letters_of (row_cells i.cells)
  pub bounds : rows.bounds ≡ bounds_from (length i.cells) (first_ceiling i) i.cells
