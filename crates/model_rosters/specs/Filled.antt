-- Numbers that stand for the prices of rules and letters.
use Rattle.std.specs.Prelude.{ℕ, ℤ, pos, neg_ℤ, ◌*ℤ◌, ◌≡◌, ◌≤◌, ◌<◌, Some, List, length, slice_get}
use Rattle.model_rosters.specs.declared.grammar.Rule.{Rule}
use Rattle.model_rosters.specs.declared.instance.Cell.{Cell}
use Rattle.model_rosters.specs.Reduced.{CellPrice, letter_price}
use Rattle.model_rosters.specs.RoomPrices.{letter_place}

-- the rule costs at most 10,000
pub record HasSmallCost (rule : Rule) : Type 0 where
  pub cost : rule.cost ≤ 10000

-- each rule has d times its cost
abbrev pub AreRulePrices : ℕ → List Rule → List ℤ → Type 0
AreRulePrices d rules numbers = (k : ℕ) (rule : Rule) → slice_get rules k ≡ Some rule
    → slice_get numbers k ≡ Some (pos d *ℤ pos rule.cost)

-- the cell is one of the letters that have a number, on a day of so many periods
pub record HasPlace (periods letters : ℕ) (c : Cell) : Type 0 where
  pub first : 1 ≤ c.period
  pub last : c.period ≤ periods
  pub within : letter_place periods c.code c.period < letters

-- each letter of the day that has a number has what the cells pay, negated
abbrev pub AreLetterPrices : ℕ → List CellPrice → List ℤ → Type 0
AreLetterPrices periods ps numbers =
    (c i : ℕ) → 1 ≤ i → i ≤ periods → letter_place periods c i < length numbers
    → slice_get numbers (letter_place periods c i) ≡ Some
    (neg_ℤ (letter_price ps (record { code = c; period = i })))
