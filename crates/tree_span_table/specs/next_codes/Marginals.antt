-- The least sum of a tree of the day that has a code at a period.
use Rattle.std.specs.Prelude.{ℕ, ℤ, Option}
use Rattle.model_rosters.specs.declared.grammar.Grammar.{Grammar}
use Rattle.model_rosters.specs.Trees.{Parts, IsDayTree}
use Rattle.model_rosters.specs.Sums.{PriceView, IsLeast, tree_sum}
use Rattle.model_rosters.specs.Arcs.{letters}
use Rattle.model_rosters.specs.Folds.{In}

-- the tree has the letter of code c at period i
abbrev pub HasLetter : ℕ → ℕ → Parts → Type 0
HasLetter c i t = In (record { code = c; period = i }) (letters 1 t)

-- a tree of the day that has the letter of code c at period i
abbrev pub IsDayTreeWith : Grammar → ℕ → ℕ → Parts → Type 0
IsDayTreeWith g c i t = IsDayTree g t × HasLetter c i t

-- v is the least sum of the trees of the day with the letter of code c at period i, and none where no
-- such tree has a sum
abbrev pub IsMarginal : Grammar → PriceView → ℕ → ℕ → Option ℤ → Type 0
IsMarginal g p c i v = IsLeast (IsDayTreeWith g c i) (tree_sum p 1) v
