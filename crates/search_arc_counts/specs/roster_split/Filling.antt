-- A tree that is written from the top, of which some nodes are still open.
use Rattle.std.specs.Prelude.{ℕ, ◌≡◌, ◌+◌, List, [], ◌∷◌, ◌++◌}
use Rattle.model_rosters.specs.declared.grammar.ArcKey.{ArcKey}
use Rattle.model_rosters.specs.declared.grammar.Grammar.{Grammar}
use Rattle.model_rosters.specs.declared.grammar.Step.{Step}
use Rattle.model_rosters.specs.Trees.{Parts, steps}
use Rattle.model_rosters.specs.Folds.{count}
use Rattle.model_rosters.specs.Arcs.{same_arc}
use Rattle.model_rosters.specs.arc_laws.OrNodes.{OrNode}
use Rattle.model_rosters.specs.arc_laws.AtNodes.{IsAt, start_of}
use Rattle.search_arc_counts.specs.roster_split.Nodes.{arcs_at}
use Rattle.search_arc_counts.specs.roster_split.Owing.{Owes}

-- parts stand at each of the nodes
abbrev pub AllAt : Grammar → List OrNode → List Parts → Type 0
AllAt g [] [] = Unit {0}
AllAt g (o ∷ os) (t ∷ ts) = IsAt g o t × AllAt g os ts
AllAt g [] (t ∷ ts) = ⊥
AllAt g (o ∷ os) [] = ⊥

-- the rule uses of the parts at these nodes
abbrev pub all_steps : List OrNode → List Parts → List Step
all_steps [] ts = []
all_steps (o ∷ os) [] = []
all_steps (o ∷ os) (t ∷ ts) = steps (start_of o) t ++ all_steps os ts

-- the arcs of the parts at these nodes
abbrev pub all_arcs : List OrNode → List Parts → List ArcKey
all_arcs [] ts = []
all_arcs (o ∷ os) [] = []
all_arcs (o ∷ os) (t ∷ ts) = arcs_at o t ++ all_arcs os ts

-- with these parts at the open nodes there is a whole, whose rule uses begin with those that are written,
-- and whose arcs are those that were taken and those of the parts
pub record Filled (g : Grammar) (root : OrNode) (old now : ArcKey → ℕ) (stack : List OrNode)
    (done : List Step) (ts : List Parts) : Type 0 where
  pub whole : Parts
  pub on : IsAt g root whole
  pub written : steps (start_of root) whole ≡ done ++ all_steps stack ts
  pub counts : (a : ArcKey) → count (same_arc a) (arcs_at root whole) + now a
      ≡ old a + count (same_arc a) (all_arcs stack ts)

-- between two arcs: the open nodes are owed, and parts at them make a whole
pub record Walking (g : Grammar) (listed : List ArcKey) (root : OrNode) (old now : ArcKey → ℕ)
    (stack pending : List OrNode) (done : List Step) : Type 0 where
  pub owes : Owes g listed now (stack ++ pending)
  pub fills : (ts : List Parts) → AllAt g stack ts → Filled g root old now stack done ts
