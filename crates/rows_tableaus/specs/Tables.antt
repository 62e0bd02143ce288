-- Linear programs of three rows as tables of numbers.
use Rattle.std.specs.Prelude.{ℕ, ℤ, pos, ◌≡◌, ◌≤◌, ◌<◌, ◌≤ℤ◌, Option, Some, None, List, [], ◌∷◌, length, slice_get}
use mathlib.Core.Path.{subst}
use Rattle.law_bounds.specs.linear_programs.Program.{Column, Program, IsSound, unit_vector}
use Rattle.lp_fractions.specs.Row.{at}
use Rattle.lp_fractions.specs.declared.pivot_rows.column.Place.{Place}
use Rattle.lp_fractions.specs.pivot_rows.Columns.{number_in}

-- a column: its cost, and an entry for each row
pub record Numbers : Type 0 where
  pub cost : ℤ
  pub places : List Place

-- the places of three entries
abbrev pub three_places : ℤ → ℤ → ℤ → List Place
three_places a b c =
    record { row = 0; value = a } ∷ record { row = 1; value = b } ∷ record { row = 2; value = c } ∷ []

-- the places tell an entry for each of three rows
abbrev pub AreThree : List Place → Type 0
AreThree places = (a b c : ℤ) × (places ≡ three_places a b c)

-- right sides, and columns, those of the units first
pub record Table : Type 0 where
  pub right : List ℤ
  pub columns : List Numbers

-- the column of some numbers; without any its entries and its cost are 0
abbrev pub column_of : Option Numbers → Column
column_of (Some c) = record { entry = number_in c.places; cost = c.cost }
column_of None = record { entry = λ r. pos 0; cost = pos 0 }

-- the program of a table, whose keys are the numbers of the columns
abbrev pub table_program : Table → Program ℕ
table_program t = record {
  rows = 3;
  right = at t.right;
  unit = λ r. r;
  column = λ k. column_of (slice_get t.columns k);
  belongs = λ k. k < length t.columns;
}

-- column j is the one of the key k
abbrev pub Lists : Table → ℕ → ℕ → Type 0
Lists t j k = (j ≡ k) × (j < length t.columns)

-- the column has the entries of a unit
pub record IsUnit (r : ℕ) (c : Numbers) : Type 0 where
  pub first : number_in c.places 0 ≡ unit_vector r 0
  pub second : number_in c.places 1 ≡ unit_vector r 1
  pub third : number_in c.places 2 ≡ unit_vector r 2

abbrev pub HasUnit : List Numbers → ℕ → Type 0
HasUnit columns r = (c : Numbers) × (slice_get columns r ≡ Some c) × IsUnit r c

-- the columns of the units come first
pub record HasUnits (columns : List Numbers) : Type 0 where
  pub long : 3 ≤ length columns
  pub first : HasUnit columns 0
  pub second : HasUnit columns 1
  pub third : HasUnit columns 2

-- the program is sound, and no column has a negative cost
pub record IsSoundTable (t : Table) : Type 0 where
  pub long : 3 ≤ length t.columns
  pub sound : IsSound (table_program t)
  pub costs : (k : ℕ) → k < length t.columns → pos 0 ≤ℤ (column_of (slice_get t.columns k)).cost

-- what is listed stays listed
pub lists-still : (a b : Table) (j k : ℕ) → a ≡ b → Lists a j k → Lists b j k
lists-still a b j k e h = subst (λ t. Lists t j k) e h
