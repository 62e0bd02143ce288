-- Steps on the way between nodes.
use Rattle.std.specs.Prelude.{ℕ, ◌≡◌, ◌≤◌, ◌<◌, List, [], ◌∷◌, ◌++◌, reverse, take}
use Rattle.model_rosters.specs.declared.instance.Cut.{Cut}
use Rattle.model_rosters.specs.declared.instance.Instance.{Instance}
use Rattle.model_rosters.specs.Arcs.{IsArc}
use Rattle.model_rosters.specs.Cuts.{lo, hi, base_cuts}
use Rattle.model_rosters.specs.Folds.{Each}
use Rattle.model_rosters.specs.SoundInstance.{IsSoundInstance}
use Rattle.tree_graph.specs.Graphs.{GraphView, IsGraph}
use Rattle.search_arc_counts.specs.count_boxes.Boxes.{BoxView}
use Rattle.search_arc_counts.specs.count_boxes.Paths.{IsBoxOf}
use Rattle.check_certificates.specs.declared.growing_laws.seat.Seat.{Seat}
use Rattle.check_certificates.specs.growing_laws.Grown.{Grown}
use Rattle.check_certificates.specs.growing_laws.Seats.{StandsAt}
use Rattle.search_arc_counts.specs.declared.node_path.turn.Turn.{Turn}
use Rattle.search_arc_counts.specs.node_path.Paths.{IsNode, IsTurn, AreTurns}

-- of the counts that the cuts above it leave its arc, the cut leaves one on both its sides
abbrev pub IsWithin : Instance → List Cut → Cut → Type 0
IsWithin i above c = (lo above c.arc ≤ c.b) × (c.b < hi i.heads_max above c.arc)

-- each of the cuts does, below those before it
abbrev pub AreWithin : Instance → List Cut → List Cut → Type 0
AreWithin i above [] = Unit {0}
AreWithin i above (c ∷ cuts) = IsWithin i above c × AreWithin i (above ++ c ∷ []) cuts

-- the box is that of the cuts above, and one cut more can be made
pub record CanCut (i : Instance) (v : GraphView) (above : List Cut) (c : Cut) (b : BoxView) : Type 0 where
  pub graph : IsGraph i.grammar v
  pub left : IsBoxOf i v above b
  pub within : IsWithin i above c

-- the cut can be made below some cuts
abbrev pub CanBeCut : GraphView → Cut → BoxView → Type 0
CanBeCut v c b = (i : Instance) × (above : List Cut) × CanCut i v above c b

-- the cut is made below the cuts above, whichever these are
abbrev pub IsCut : GraphView → Cut → BoxView → BoxView → Type 0
IsCut v c old new = (i : Instance) (above : List Cut) → CanCut i v above c old
    → IsBoxOf i v (above ++ c ∷ []) new

-- the turn tells what the cut's arc had, whichever the cuts above are
abbrev pub TellsTurn : GraphView → Cut → BoxView → Turn → Type 0
TellsTurn v c old turn = (i : Instance) (above : List Cut) → CanCut i v above c old → IsTurn i v above c turn

-- where the old turns led to the cuts above, the new ones lead to the cut too
abbrev pub LeadTo : GraphView → Cut → BoxView → List Turn → List Turn → Type 0
LeadTo v c box old new = (i : Instance) (base above : List Cut) → CanCut i v above c box
    → IsArc i.grammar c.arc → AreTurns i v base old above → AreTurns i v base new (above ++ c ∷ [])

-- the box is that of the cuts above, and these cuts on arcs of the instance can be made
pub record CanGoDown (i : Instance) (v : GraphView) (above cuts : List Cut) (b : BoxView) : Type 0 where
  pub graph : IsGraph i.grammar v
  pub left : IsBoxOf i v above b
  pub within : AreWithin i above cuts
  pub arcs : Each (λ (c : Cut). IsArc i.grammar c.arc) cuts

-- the box is that of these cuts, which the turns lead to from the cuts above
pub record HasTurned (i : Instance) (v : GraphView) (above : List Cut) (turns : List Turn)
    (cuts : List Cut) (b : BoxView) : Type 0 where
  pub sound : IsSoundInstance i
  pub graph : IsGraph i.grammar v
  pub turned : AreTurns i v above turns cuts
  pub left : IsBoxOf i v cuts b

-- the cuts are made below the cuts above, whichever these are, and the turns lead to them
abbrev pub GoesDown : GraphView → List Cut → BoxView → List Turn → BoxView → List Turn → Type 0
GoesDown v cuts old turns new more = (i : Instance) (above : List Cut) → CanGoDown i v above cuts old
    → AreTurns i v above turns above
    → IsBoxOf i v (above ++ cuts) new × AreTurns i v above more (above ++ cuts)

-- the turns lead from some cuts to those of the box
abbrev pub CanGoBack : List Turn → BoxView → Type 0
CanGoBack turns b = (i : Instance) × (v : GraphView) × (above : List Cut) × (cuts : List Cut)
    × HasTurned i v above turns cuts b

-- the box is that of the cuts from which the turns led, whichever these are
abbrev pub HasGoneBack : List Turn → BoxView → BoxView → Type 0
HasGoneBack turns old new = (i : Instance) (v : GraphView) (above cuts : List Cut)
    → HasTurned i v above turns cuts old → IsBoxOf i v above new

-- the cuts of the path below the base cuts are added, the last one first
pub record IsClimbed (i : Instance) (path old new : List Cut) : Type 0 where
  pub up : List Cut
  pub added : new ≡ old ++ up
  pub down : path ≡ base_cuts i ++ reverse up

-- the cuts of each path to a node of this number are added so
abbrev pub HasClimbed : List Seat → ℕ → List Cut → List Cut → Type 0
HasClimbed seats number old new = (i : Instance) (t : Grown) (path : List Cut) → IsNode i seats number t path
    → IsClimbed i path old new

-- each path to a node of this number stands in the place of one that begins with the same base cuts
abbrev pub HasFollowed : ℕ → List Seat → ℕ → List Cut → List Cut → Type 0
HasFollowed base seats number old new = (i : Instance) (t : Grown) (path : List Cut)
    → IsNode i seats number t path → take base old ≡ base_cuts i → new ≡ path

-- the cuts of the path below a node are added, the last one first; the node of this number is above them
pub record IsClimbing (i : Instance) (t : Grown) (path : List Cut) (number : ℕ)
    (old new : List Cut) : Type 0 where
  pub up : List Cut
  pub added : new ≡ old ++ up
  pub shorter : List Cut
  pub stands : StandsAt (base_cuts i) t number shorter
  pub down : path ≡ shorter ++ reverse up
