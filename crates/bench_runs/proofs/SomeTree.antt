-- Where a day has an arc it has a tree.
use Rattle.std.proofs.Common.{◌<◌, arith, List, [], ◌∷◌, length, refl}
use Rattle.model_rosters.specs.declared.grammar.ArcKey.{ArcKey}
use Rattle.model_rosters.specs.declared.grammar.Grammar.{Grammar}
use Rattle.model_rosters.specs.Trees.{Parts, IsDayTree}
use Rattle.tree_graph.specs.Graphs.{GraphView, HasArcs, IsGraph}

from-arcs : (g : Grammar) (listed : List ArcKey) → HasArcs g listed → 0 < length listed → (t : Parts) × IsDayTree g t
from-arcs g [] has some = absurd (omega (arith, some))
from-arcs g (a ∷ as-2) has some = let t = has.sound 0 a refl in (t.0, t.1)

pub some_tree : (g : Grammar) (v : GraphView) → IsGraph g v → 0 < length v.arcs → (t : Parts) × IsDayTree g t
some_tree g v is some = from-arcs g v.arcs is.arcs some
