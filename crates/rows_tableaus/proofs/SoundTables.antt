-- A table whose first columns are those of the units has a sound program.
use Rattle.std.proofs.Common.{◌≡◌, ℕ, zero, suc, ℤ, pos, ◌≤ℤ◌, ◌<◌, arith, All, List, [], ◌∷◌, slice_get}
use Rattle.std.proofs.lemmas.Int.{ints}
use Rattle.std.proofs.lemmas.List.Elements.{All-head, All-tail}
use Rattle.law_bounds.specs.linear_programs.Program.{unit_vector}
use Rattle.lp_fractions.specs.Row.{at}
use Rattle.lp_fractions.specs.pivot_rows.Columns.{number_in}
use Rattle.rows_tableaus.specs.Tables.{Numbers, Table, column_of, HasUnit, HasUnits, IsSoundTable}

below-three : (P : ℕ → Type 0) → P 0 → P 1 → P 2 → (r : ℕ) → r < 3 → P r
below-three P a b c zero h = a
below-three P a b c (suc zero) h = b
below-three P a b c (suc (suc zero)) h = c
below-three P a b c (suc (suc (suc r))) h = absurd (omega (arith, h))

at-least : (xs : List ℤ) → All (λ (z : ℤ). pos 0 ≤ℤ z) xs → (r : ℕ) → pos 0 ≤ℤ at xs r
at-least [] all r = omega (arith, ints)
at-least (x ∷ xs) all zero = All-head (λ (z : ℤ). pos 0 ≤ℤ z) x xs all
at-least (x ∷ xs) all (suc r) = at-least xs (All-tail (λ (z : ℤ). pos 0 ≤ℤ z) x xs all) r

cost-least : (cs : List Numbers) → All (λ (c : Numbers). pos 0 ≤ℤ c.cost) cs → (k : ℕ) → pos 0 ≤ℤ (column_of (slice_get cs k)).cost
cost-least [] all k = omega (arith, ints)
cost-least (c ∷ cs) all zero = All-head (λ (d : Numbers). pos 0 ≤ℤ d.cost) c cs all
cost-least (c ∷ cs) all (suc k) = cost-least cs (All-tail (λ (d : Numbers). pos 0 ≤ℤ d.cost) c cs all) k

unit-of : (cs : List Numbers) (r : ℕ) → HasUnit cs r → (i : ℕ) → i < 3 → (column_of (slice_get cs r)).entry i ≡ unit_vector r i
unit-of cs r (c, there, is) = rw there (below-three (λ i. number_in c.places i ≡ unit_vector r i) is.first is.second is.third)

pub sound_table : (t : Table) → HasUnits t.columns → All (λ (z : ℤ). pos 0 ≤ℤ z) t.right
    → All (λ (c : Numbers). pos 0 ≤ℤ c.cost) t.columns → IsSoundTable t
sound_table t units right costs = record {
  long = units.long;
  sound = record {
    right = λ r h. at-least t.right right r;
    belongs = λ r h. let long = units.long in omega (arith, h, long);
    units = λ r i h k. below-three (λ u. (column_of (slice_get t.columns u)).entry i ≡ unit_vector u i)
        (unit-of t.columns 0 units.first i k) (unit-of t.columns 1 units.second i k) (unit-of t.columns 2 units.third i k) r h;
  };
  costs = λ k h. cost-least t.columns costs k;
}
