-- Balanced counts and the trees that have them.
use Rattle.std.specs.Prelude.{ℕ, ◌≡◌, List, length}
use Rattle.model_rosters.specs.declared.grammar.ArcKey.{ArcKey}
use Rattle.model_rosters.specs.declared.grammar.Grammar.{Grammar}
use Rattle.model_rosters.specs.Trees.{Parts, IsDayTree}
use Rattle.model_rosters.specs.Folds.{Each, In}
use Rattle.model_rosters.specs.Cuts.{arc_count}
use Rattle.model_rosters.specs.Sound.{IsSound}
use Rattle.model_rosters.specs.arc_laws.Balance.{IsBalanced}
use Rattle.model_rosters.specs.arc_laws.Counts.{root_count}
use Rattle.tree_graph.specs.Graphs.{HasArcs}

-- trees of the day, as many as the root's count, with these counts
pub record AreTreesOf (g : Grammar) (listed : List ArcKey) (value : ArcKey → ℕ)
    (ts : List Parts) : Type 0 where
  pub day : Each (IsDayTree g) ts
  pub number : length ts ≡ root_count g listed value
  pub counts : (a : ArcKey) → In a listed → arc_count a ts ≡ value a

-- balanced counts are those of a list of trees of the day
abbrev pub SplitBalanced : Type 0
SplitBalanced =
    (g : Grammar) (listed : List ArcKey) (value : ArcKey → ℕ) → IsSound g → HasArcs g listed
    → IsBalanced g listed value
    → (ts : List Parts) × AreTreesOf g listed value ts
