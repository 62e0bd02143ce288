-- What stands at a node, and its arcs.
use Rattle.std.specs.Prelude.{ℕ, zero, suc, List, [], ◌∷◌}
use Rattle.model_rosters.specs.declared.grammar.ArcKey.{ArcKey}
use Rattle.model_rosters.specs.Trees.{Parts}
use Rattle.model_rosters.specs.Arcs.{arcs, parts_arcs}
use Rattle.model_rosters.specs.arc_laws.OrNodes.{OrNode, name, suffix, leaf}

-- the arcs of what stands at a node
abbrev pub arcs_at : OrNode → Parts → List ArcKey
arcs_at (name x i l) t = arcs i t
arcs_at (suffix r k i l) t = parts_arcs r k i t
arcs_at (leaf l) t = []

-- a name or a suffix
abbrev pub IsInner : OrNode → Type 0
IsInner (name x i l) = Unit {0}
IsInner (suffix r k i l) = Unit {0}
IsInner (leaf l) = ⊥

-- the nodes with this one first, save where it is a letter
abbrev pub push_inner : OrNode → List OrNode → List OrNode
push_inner (name x i l) os = name x i l ∷ os
push_inner (suffix r k i l) os = suffix r k i l ∷ os
push_inner (leaf l) os = os

-- these nodes before the others, save where one is a letter
abbrev pub stack_after : List OrNode → List OrNode → List OrNode
stack_after [] rest = rest
stack_after (o ∷ os) rest = push_inner o (stack_after os rest)

-- the same node many times
abbrev pub copies : ℕ → OrNode → List OrNode
copies zero o = []
copies (suc k) o = o ∷ copies k o
