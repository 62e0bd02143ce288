-- Tables that tell which names derive a word of the day.
use Rattle.std.specs.Prelude.{ℕ, ◌≡◌, ◌≤◌, ◌<◌, ◌↔◌, Bool, true, false, List, IsSome, length, slice_index_or}
use Rattle.model_rosters.specs.declared.grammar.Grammar.{Grammar}
use Rattle.model_rosters.specs.Trees.{Parts, IsTreeOf}
use Rattle.model_rosters.specs.Sums.{PriceView, tree_sum}
use Rattle.tree_span_table.specs.Tables.{TableView, IsFilled}

-- the table is filled for prices under which each tree of the day has a sum
pub record IsFilledForAll (g : Grammar) (table : TableView) : Type 0 where
  pub prices : PriceView
  pub filled : IsFilled g prices table
  pub sums : (x : ℕ) (t : Parts) → IsTreeOf g x t → IsSome (tree_sum prices 1 t)

-- some employees of the name are needed, and it derives no word of the day
abbrev pub NeedsInVain : Grammar → ℕ → ℕ → Type 0
NeedsInVain g name least = (0 < least) × ((t : Parts) → IsTreeOf g name t → ⊥)

-- the list tells of each name, in its order, whether it derives a word of the day
pub record TellsDerived (g : Grammar) (derives : List Bool) : Type 0 where
  pub count : length g.names ≤ length derives
  pub told : (x : ℕ) → x < length g.names → (slice_index_or derives x true ≡ false)
      ↔ ((t : Parts) → IsTreeOf g x t → ⊥)
