-- The pivot path of the example.
use Rattle.std.proofs.Common.{◌≡◌, ℕ, true, false, ◌<◌, arith, zero, suc, pos, refl, ◌≤ℤ◌, ◌<ℤ◌, ◌*ℤ◌}
use Rattle.std.proofs.lemmas.Int.{ints}
use native.Mathlib.Nat.{one-dvd}
use Rattle.law_bounds.specs.linear_programs.RowStep.{combined, IsRowStep}
use Rattle.law_bounds.specs.linear_programs.Program.{IsSound, unit_vector, IsPricedOut}
use Rattle.law_bounds.specs.linear_programs.Tableau.{IsStart, IsStep, PivotPath, start, step, entry, cost_row, padded_row}
use Rattle.law_bounds.specs.linear_programs.Example.{column_of, example_program, first_tableau, last_tableau}

units : (r i : ℕ) → r < 1 → i < 1 → pos 1 ≡ unit_vector r i
units zero zero h k = refl
units zero (suc i) h k = absurd (omega arith)
units (suc r) i h k = absurd (omega arith)

pub example_sound : IsSound example_program
example_sound = record { right = λ r h. omega (arith, ints); belongs = λ r h. tt; units = units }

starts : IsStart example_program first_tableau
starts = record { rows = units; right = λ r h. refl; basis = λ r h. refl; y = λ i h. refl; value = refl; kappa = refl }

new_costs : (k : ℕ) → k < 3 → pos 1 *ℤ cost_row 1 last_tableau k ≡ combined (pos 1) (cost_row 1 first_tableau k) (pos 2) (padded_row 1 first_tableau 0 k)
new_costs zero h = refl
new_costs (suc zero) h = refl
new_costs (suc (suc zero)) h = refl
new_costs (suc (suc (suc k))) h = absurd (omega arith)

cost_step : IsRowStep 3 (pos 1) (cost_row 1 first_tableau) (pos 2) (padded_row 1 first_tableau 0) (cost_row 1 last_tableau) (pos 1)
cost_step = record {
  factor = (1, record { divides = λ k h. one-dvd _; greatest = λ e h. h 0 (omega arith) }, refl);
  entries = new_costs;
}

stepped : IsStep 1 first_tableau true (column_of true) 0 last_tableau
stepped = record {
  choice = record { cheaper = omega (arith, ints); within = omega arith; positive = omega (arith, ints); least = least };
  same = ((λ i h. refl), refl);
  rows = λ r h n. absurd (n (omega arith));
  cost = (pos 1, cost_step);
  basis = (refl, λ r h n. absurd (n (omega arith)));
}
  where
    least : (r : ℕ) → r < 1 → pos 0 <ℤ entry 1 first_tableau r (column_of true) → (pos 2 *ℤ entry 1 first_tableau r (column_of true)) ≤ℤ (pos 2 *ℤ entry 1 first_tableau 0 (column_of true))
    least r h p = omega (arith, ints)

pub example_path : PivotPath example_program 1 last_tableau
example_path = step 0 first_tableau last_tableau true 0 (start first_tableau starts) tt stepped

pub example_priced_out : IsPricedOut example_program last_tableau.y last_tableau.kappa
example_priced_out false h = omega (arith, ints)
example_priced_out true h = omega (arith, ints)
