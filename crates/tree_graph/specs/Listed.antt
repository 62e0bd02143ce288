-- The arcs of the instance, counted and listed.
use Rattle.std.specs.Prelude.{ℕ, ◌≡◌, ◌≤◌, All, List, length}
use Rattle.model_rosters.specs.declared.grammar.ArcKey.{ArcKey}
use Rattle.model_rosters.specs.declared.grammar.Grammar.{Grammar}
use Rattle.model_rosters.specs.arc_laws.Lists.{AreArcs}
use Rattle.tree_span_arcs.specs.Shapes.{IsShaped}

-- so many arcs has the instance
abbrev pub IsArcCount : Grammar → ℕ → Type 0
IsArcCount g count = (listed : List ArcKey) × AreArcs g listed × (count ≡ length listed)

-- the arcs of the instance in their order, few enough for a graph
pub record AreListed (g : Grammar) (listed : List ArcKey) : Type 0 where
  pub arcs : AreArcs g listed
  pub shaped : All (IsShaped g) listed
  pub few : length listed ≤ 100000
