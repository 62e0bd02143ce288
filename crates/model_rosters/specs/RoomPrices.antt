-- Prices held as numbers: of letters by code and period, of rules, and of arcs as entries that add up.
use Rattle.std.specs.Prelude.{ℕ, ℤ, pos, ◌+◌, ◌-◌, ◌*◌, cond, Option, None, Some, List, slice_get, zero, suc}
use Rattle.model_rosters.specs.declared.grammar.ArcKey.{ArcKey}
use Rattle.model_rosters.specs.declared.arc_prices.ArcPrice.{ArcPrice}
use Rattle.model_rosters.specs.Arcs.{same_arc}
use Rattle.model_rosters.specs.Folds.{sum_z}
use Rattle.model_rosters.specs.Sums.{PriceView}

-- where the number of a letter stands, on a day of so many periods
abbrev pub letter_place : ℕ → ℕ → ℕ → ℕ
letter_place periods c i = c * periods + (i - 1)

-- what an entry adds to the price of an arc
abbrev pub entry_price : ArcKey → ArcPrice → ℤ
entry_price a x = cond (same_arc x.arc a) x.price (pos 0)

abbrev pub listed_price : List ArcPrice → ArcKey → ℤ
listed_price xs a = sum_z (entry_price a) xs

abbrev pub number_or_zero : Option ℤ → ℤ
number_or_zero None = pos 0
number_or_zero (Some z) = z

-- the number of rule r, from 1
abbrev pub rule_number : List ℤ → ℕ → ℤ
rule_number rules zero = pos 0
rule_number rules (suc r) = number_or_zero (slice_get rules r)

abbrev pub numbers_view : ℕ → List ℤ → List ℤ → List ArcPrice → PriceView
numbers_view periods letters rules arcs = record {
  letter_at = λ c i. slice_get letters (letter_place periods c i);
  arc_of = λ a. listed_price arcs a;
  rule_of = λ r. rule_number rules r;
}
