-- A path of cuts from the root of a search to a node, with the counts that it leaves the arcs.
use Rattle.std.specs.Prelude.{ℕ, ◌≡◌, ◌<◌, ◌^◌, Some, List, [], ◌∷◌, ◌++◌, length, slice_get}
use Rattle.model_rosters.specs.declared.instance.Cut.{Cut}
use Rattle.model_rosters.specs.declared.instance.Instance.{Instance}
use Rattle.model_rosters.specs.Cuts.{base_cuts}
use Rattle.tree_graph.specs.Graphs.{GraphView}
use Rattle.search_arc_counts.specs.count_boxes.Boxes.{BoxView}
use Rattle.search_arc_counts.specs.count_boxes.Paths.{IsBoxOf, WasBoxOf}
use Rattle.check_certificates.specs.declared.growing_laws.seat.Seat.{Seat}
use Rattle.check_certificates.specs.growing_laws.Grown.{Grown, OnForks}
use Rattle.check_certificates.specs.growing_laws.Seats.{HoldTree, StandsAt}
use Rattle.check_certificates.specs.growing_laws.States.{IsSplitAt}
use Rattle.search_arc_counts.specs.declared.node_path.turn.Turn.{Turn}

-- the cuts of the path, the base cuts first, the counts that they leave the arcs, how many base cuts there
-- are, and what the arcs of the further cuts had before
pub record PathView : Type 0 where
  pub cuts : List Cut
  pub arc_box : BoxView
  pub base : ℕ
  pub turns : List Turn

-- the turn has the number of the cut's arc, and what the cuts above left the arc: more than one count
pub record IsTurn (i : Instance) (v : GraphView) (above : List Cut) (c : Cut) (turn : Turn) : Type 0 where
  pub at : slice_get v.arcs turn.arc ≡ Some c.arc
  pub was : WasBoxOf i above c.arc (turn.low, turn.high)
  pub loose : turn.low < turn.high

-- the further cuts are those of the turns, which tell what their arcs had before
abbrev pub AreTurns : Instance → GraphView → List Cut → List Turn → List Cut → Type 0
AreTurns i v above [] cuts = cuts ≡ above
AreTurns i v above (turn ∷ turns) cuts =
    (c : Cut) × IsTurn i v above c turn × AreTurns i v (above ++ c ∷ []) turns cuts

-- the path is one below the base cuts, and the box has the counts that its cuts leave
pub record IsPath (i : Instance) (v : GraphView) (p : PathView) : Type 0 where
  pub base : p.base ≡ length (base_cuts i)
  pub turned : AreTurns i v (base_cuts i) p.turns p.cuts
  pub left : IsBoxOf i v p.cuts p.arc_box

-- a node of the tree that the seats hold, below this path; each split leaves both halves a count
pub record IsNode (i : Instance) (seats : List Seat) (number : ℕ) (t : Grown) (path : List Cut) : Type 0 where
  pub held : HoldTree seats t
  pub splits : OnForks (λ cuts a b own. IsSplitAt i cuts a b) (base_cuts i) t
  pub stands : StandsAt (base_cuts i) t number path
  pub few : length seats < 2 ^ 32

-- there is a node of this number
abbrev pub HasNode : Instance → List Seat → ℕ → Type 0
HasNode i seats number = (t : Grown) × (path : List Cut) × IsNode i seats number t path

-- the cuts are those of each path to a node of this number
abbrev pub IsWayTo : Instance → List Seat → ℕ → List Cut → Type 0
IsWayTo i seats number cuts = (t : Grown) (path : List Cut) → IsNode i seats number t path → cuts ≡ path
