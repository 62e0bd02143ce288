-- The prices of a room are small.
use Rattle.std.proofs.Common.{ℕ, ◌^◌, List, zero, suc, None, Some, Option, IfSome, arith, All}
use Rattle.std.specs.Prelude.{ℤ, slice_get}
use Rattle.std.proofs.lemmas.Int.{ints}
use Rattle.model_rosters.specs.declared.arc_prices.ArcPrice.{ArcPrice}
use Rattle.model_rosters.specs.ArcEntries.{AreSorted, IsEntryWithin}
use Rattle.model_rosters.specs.EntryLaws.{listed-within}
use Rattle.model_rosters.specs.RoomPrices.{number_or_zero, rule_number, numbers_view}
use Rattle.model_rosters.specs.PriceLaws.{get-within}
use Rattle.model_rosters.specs.Sums.{Within, AllWithin}

number-small : (x : Option ℤ) → IfSome x (Within (2 ^ 96)) → Within (2 ^ 96) (number_or_zero x)
number-small None h = record { low = omega (arith, ints); high = omega (arith, ints) }
number-small (Some z) h = h

rule-small : (rules : List ℤ) (r : ℕ) → All (Within (2 ^ 96)) rules → Within (2 ^ 96) (rule_number rules r)
rule-small rules zero h = record { low = omega (arith, ints); high = omega (arith, ints) }
rule-small rules (suc r) h = number-small (slice_get rules r) (get-within rules r h)

pub view-small : (periods : ℕ) (letters rules : List ℤ) (arcs : List ArcPrice) → All (Within (2 ^ 96)) letters
    → All (Within (2 ^ 96)) rules
    → AreSorted arcs → All (IsEntryWithin (2 ^ 96)) arcs
    → AllWithin (2 ^ 96) (numbers_view periods letters rules arcs)
view-small periods letters rules arcs l r sorted small = record {
  letters = λ c i. get-within letters _ l;
  arcs = λ a. listed-within (2 ^ 96) arcs a sorted small;
  rules = λ k. rule-small rules k r;
}
