-- Boxes as the cuts of a path leave them.
use Rattle.std.specs.Prelude.{ℕ, ◌≡◌, [], ◌∷◌, ◌++◌, Some, List, slice_get}
use Rattle.model_rosters.specs.declared.grammar.ArcKey.{ArcKey}
use Rattle.model_rosters.specs.declared.instance.Cut.{Cut}
use Rattle.model_rosters.specs.declared.instance.Instance.{Instance}
use Rattle.model_rosters.specs.Arcs.{IsArc}
use Rattle.model_rosters.specs.Cuts.{lo, hi}
use Rattle.tree_graph.specs.Graphs.{GraphView, IsGraph}
use Rattle.model_rosters.specs.arc_laws.Loose.{IsLoose}
use Rattle.search_arc_counts.specs.count_boxes.Boxes.{BoxView, IsBoxFor, bounds_at}

-- the box leaves each arc of the graph the counts that the cuts leave it
pub record IsBoxOf (i : Instance) (v : GraphView) (cuts : List Cut) (b : BoxView) : Type 0 where
  pub made : IsBoxFor i v b
  pub low : (p : ℕ) (a : ArcKey) → slice_get v.arcs p ≡ Some a → (bounds_at b.bounds p).low ≡ lo cuts a
  pub high : (p : ℕ) (a : ArcKey) → slice_get v.arcs p ≡ Some a
      → (bounds_at b.bounds p).high ≡ hi i.heads_max cuts a

-- these were the counts that the cuts leave the arc
abbrev pub WasBoxOf : Instance → List Cut → ArcKey → ℕ × ℕ → Type 0
WasBoxOf i cuts a old = (old.0 ≡ lo cuts a) × (old.1 ≡ hi i.heads_max cuts a)

-- the cuts leave the arc with this number more than one count
abbrev pub IsLooseAt : Instance → GraphView → List Cut → ℕ → Type 0
IsLooseAt i v cuts p = (a : ArcKey) × (slice_get v.arcs p ≡ Some a) × IsLoose i cuts a

-- a cut on what is no arc of the instance changes no box
abbrev pub CutsElsewhere : Type 0
CutsElsewhere =
    (i : Instance) (v : GraphView) (cuts : List Cut) (c : Cut) (b : BoxView) → IsGraph i.grammar v
    → (IsArc i.grammar c.arc → ⊥)
    → IsBoxOf i v cuts b → IsBoxOf i v (cuts ++ c ∷ []) b
