-- What sums and marginals under the prices of a pattern say of shifts.
use Rattle.std.specs.Prelude.{ℕ, ℤ, ◌≡◌, ◌≤◌, Option, List, Some, length, pos, slice_get}
use Rattle.std.specs.Option.{option_map}
use Rattle.model_rosters.specs.declared.grammar.CodeDef.{CodeDef}
use Rattle.model_rosters.specs.declared.grammar.Grammar.{Grammar}
use Rattle.model_rosters.specs.Arcs.{cost}
use Rattle.model_rosters.specs.Sound.{IsSound}
use Rattle.model_rosters.specs.Sums.{IsLeast, tree_sum}
use Rattle.model_rosters.specs.Trees.{Parts, IsDayTree, word}
use Rattle.tree_span_table.specs.next_codes.Marginals.{IsMarginal}
use Rattle.tree_questions.specs.Prices.{pattern_view, at_period}
use Rattle.tree_questions.specs.Shifts.{TakesFront, IsLeastPrice}

-- the sum of a least price
abbrev pub IsSumOf : Option ℤ → Option ℕ → Type 0
IsSumOf v price = v ≡ option_map (λ n. pos n) price

-- a tree of the day has a sum exactly where the pattern takes the front of its word, and the sum is its cost
pub record SumsAreCosts (g : Grammar) (any : Option ℕ) (pattern : List ℕ) : Type 0 where
  pub taken : (t : Parts) (z : ℤ) → IsDayTree g t → tree_sum (pattern_view g any pattern) 1 t ≡ Some z
      → TakesFront any pattern (word g t)
  pub priced : (t : Parts) → IsDayTree g t → TakesFront any pattern (word g t)
      → tree_sum (pattern_view g any pattern) 1 t ≡ Some (pos (cost g t))

abbrev pub PatternSums : Type 0
PatternSums =
    (g : Grammar) (any : Option ℕ) (pattern : List ℕ) → IsSound g → length pattern ≤ g.periods
    → SumsAreCosts g any pattern

-- the pattern takes the front of the word, which has the byte at period i
pub record TakesWith (any : Option ℕ) (pattern : List ℕ) (i b : ℕ) (w : List ℕ) : Type 0 where
  pub front : TakesFront any pattern w
  pub there : at_period w i ≡ Some b

-- the least sum is the least price of the shifts whose front the pattern takes
abbrev pub LeastSums : Type 0
LeastSums =
    (g : Grammar) (any : Option ℕ) (pattern : List ℕ) (v : Option ℤ) → IsSound g → length pattern ≤ g.periods
    → IsLeast (IsDayTree g) (tree_sum (pattern_view g any pattern) 1) v
    → (price : Option ℕ) × IsSumOf v price × IsLeastPrice g (TakesFront any pattern) price

-- a marginal is the least price of such shifts that have the code at the period
abbrev pub MarginalPrices : Type 0
MarginalPrices =
    (g : Grammar) (any : Option ℕ) (pattern : List ℕ) (c i : ℕ) (d : CodeDef) (v : Option ℤ) → IsSound g
    → length pattern ≤ g.periods → slice_get g.codes c ≡ Some d → 1 ≤ i
    → IsMarginal g (pattern_view g any pattern) c i v
    → (price : Option ℕ) × IsSumOf v price × IsLeastPrice g (TakesWith any pattern i d.byte) price
