-- Sums and prices as numbers of one width.
use Rattle.std.specs.Prelude.{ℕ, ℤ, pos, ◌≡◌, ◌+◌, ◌<◌, ◌≤◌, ◌^◌, ◌⊎◌, Bool, true, false, cond, Option, None, Some, IfSome, List, length, slice_index_or, refl}
use Rattle.std.specs.Ordering.{int_eq}
use Rattle.std.specs.Cmp.{signed_Decides}
use Rattle.std.proofs.Common.{sym}
use Rattle.model_rosters.specs.Sums.{PriceView, Within, IsLesser}
use Rattle.tree_cheapest.specs.Pricers.{value_at}

-- how great prices and sums of a width may be, and which numbers stand for no least sum and for none
pub record Limits : Type 0 where
  pub price : ℕ
  pub sum : ℕ
  pub least : ℕ
  pub none : ℕ

-- a price is a sum, and a sum fits a cell; no least sum is above all sums of two sums and two prices, and
-- below what comes of a number that stands for none
pub record AreLimits (m : Limits) : Type 0 where
  pub prices : m.price ≤ m.sum
  pub sums : m.sum ≤ 2 ^ 110
  pub above : m.sum + m.sum + (m.price + m.price) < m.least
  pub below : m.least + m.sum + (m.price + m.price) < m.none

-- the sum that a number stands for, where one number stands for none
abbrev pub sum_but : ℕ → ℤ → Option ℤ
sum_but none z = cond (int_eq z (pos none)) None (Some z)

-- the number that stands for a sum
abbrev pub number_but : ℕ → Option ℤ → ℤ
number_but none None = pos none
number_but none (Some z) = z

same_number : (none : ℕ) (z : ℤ) (b : Bool) → (b ≡ true → z ≡ pos none)
    → number_but none (cond b None (Some z)) ≡ z
same_number none z true h = sym (h refl)
same_number none z false h = refl

-- the number of a sum is the number that it was read from
pub number_but-sum_but : (none : ℕ) (z : ℤ) → number_but none (sum_but none z) ≡ z
number_but-sum_but none z = same_number none z (int_eq z (pos none)) (signed_Decides z (pos none)).0

-- each sum is at most so great in size
abbrev pub AreSmall : ℕ → List (Option ℤ) → Type 0
AreSmall most values = (s : ℕ) → s < length values → IfSome (value_at values s) (Within most)

-- the lesser of a sum and that of an arc, with its arc
pub record IsBetter (sum : Option ℤ) (arc : ℕ) (total : Option ℤ) (maker : ℕ) (better : Option ℤ)
    (chosen : ℕ) : Type 0 where
  pub lesser : IsLesser sum total better
  pub one : ((better ≡ sum) × (chosen ≡ arc)) ⊎ ((better ≡ total) × (chosen ≡ maker))

-- the price of each rule at its number plus 1, and 0 at 0; each is at most so great in size
pub record AreRules (most : ℕ) (p : PriceView) (rules : List ℤ) : Type 0 where
  pub count : length rules ≡ 257
  pub none : slice_index_or rules 0 (pos 0) ≡ pos 0
  pub each : (r : ℕ) → r < 256 → slice_index_or rules (r + 1) (pos 0) ≡ p.rule_of r
  pub small : (k : ℕ) → k < 257 → Within most (slice_index_or rules k (pos 0))
