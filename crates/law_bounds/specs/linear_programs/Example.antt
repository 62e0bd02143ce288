-- A program of one row with the right side 2: the unit column costs 3, and a further column with the entry 1 costs 1.
use Rattle.std.specs.Prelude.{Bool, true, false, pos}
use Rattle.law_bounds.specs.linear_programs.Program.{Column, Program}
use Rattle.law_bounds.specs.linear_programs.Tableau.{Tableau}

-- the further column at true, the unit column at false
abbrev pub column_of : Bool → Column
column_of false = record { entry = λ i. pos 1; cost = pos 3 }
column_of true = record { entry = λ i. pos 1; cost = pos 1 }

-- one row, in which each column has the entry 1
abbrev pub example_program : Program Bool
example_program =
    record { rows = 1; right = λ i. pos 2; unit = λ r. false; column = column_of; belongs = λ k. Unit {0} }

-- its first tableau
abbrev pub first_tableau : Tableau Bool
first_tableau = record {
  row = λ r i. pos 1;
  right = λ r. pos 2;
  basis = λ r. false;
  y = λ i. pos 3;
  value = pos 6;
  kappa = pos 1;
}

-- the tableau after one step, in which the further column becomes basic
abbrev pub last_tableau : Tableau Bool
last_tableau = record {
  row = λ r i. pos 1;
  right = λ r. pos 2;
  basis = λ r. true;
  y = λ i. pos 1;
  value = pos 2;
  kappa = pos 1;
}
