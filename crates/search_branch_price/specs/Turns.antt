-- What is asked for each step of a turn, and what it leads to, whatever the counts of refusals are.
use Rattle.std.specs.Prelude.{ℕ, Bool, IsTrue, List}
use Rattle.model_rosters.specs.declared.instance.Cut.{Cut}
use Rattle.tree_graph.specs.Graphs.{GraphView}
use Rattle.model_rosters.specs.declared.instance.Instance.{Instance}
use Rattle.lp_master_rows.specs.declared.search_day.day.Day.{Day}
use Rattle.search_open_nodes.specs.declared.leaf.OpenLeaf.{OpenLeaf}
use Rattle.search_primal.specs.declared.open_node.OpenNode.{OpenNode}
use Rattle.search_branch_price.specs.declared.progress.Progress.{Progress}
use Rattle.search_branch_price.specs.declared.turn_end.TurnEnd.{TurnEnd}
use Rattle.search_branch_price.specs.Steps.{AsksTurn, AsksNode, AsksHalf, IsTurned, IsGivenUp, EndsTurn}

-- a leaf was taken
abbrev pub IsTaken : GraphView → Progress → OpenLeaf → Type 0
IsTaken v p leaf = (i : Instance) × (strict : Bool) × (now : ℕ) × AsksTurn i v strict now p leaf

-- it, or a half of it, is in hand
abbrev pub IsHalfInHand : GraphView → Progress → OpenLeaf → Progress → OpenLeaf → Type 0
IsHalfInHand v old leaf new half = (i : Instance) (strict : Bool) (now : ℕ)
    (asked : AsksTurn i v strict now old leaf)
    → AsksHalf i v strict asked.before now leaf.bound old new half

-- a leaf was taken from a search over a master with this count
abbrev pub IsDue : Day → Bool → ℕ → Progress → OpenLeaf → Type 0
IsDue d strict now p leaf = AsksTurn d.instance.now d.graph.now strict now p leaf

-- its turn ends then, with that count
abbrev pub TakesTurn : Day → Bool → ℕ → ℕ → Bool → Progress → OpenLeaf → Progress → TurnEnd → Type 0
TakesTurn d strict now later patient old leaf new end =
    (asked : AsksTurn d.instance.now d.graph.now strict now old leaf)
    → EndsTurn d.instance.now d.graph.now strict asked.before later leaf.bound patient old new end

-- a leaf below these cuts is not processed
abbrev pub IsInHand : Day → Progress → OpenLeaf → List Cut → Type 0
IsInHand d p leaf cuts = (strict : Bool) × (before : ℕ) × (now : ℕ) × (low : ℕ)
    × AsksNode d.instance.now d.graph.now strict before now low p leaf cuts

-- it is processed then
abbrev pub IsTurnedBelow : Day → Progress → OpenLeaf → List Cut → Progress → Type 0
IsTurnedBelow d old leaf cuts new = (strict : Bool) (before now low : ℕ)
    → AsksNode d.instance.now d.graph.now strict before now low old leaf cuts
    → IsTurned d.instance.now d.graph.now strict before now low old new

-- a leaf at the node is not processed
abbrev pub IsLeafAt : OpenNode → Progress → OpenLeaf → Type 0
IsLeafAt n p leaf = IsInHand n.searched.day p leaf n.cuts.now

-- it is processed then
abbrev pub IsTurnedAt : OpenNode → Progress → OpenLeaf → Progress → Type 0
IsTurnedAt n old leaf new = IsTurnedBelow n.searched.day old leaf n.cuts.now new

-- its turn is stopped then by a watch that is not patient: the leaf stays, or the root has prices
abbrev pub StopsAt : OpenNode → Progress → OpenLeaf → Progress → TurnEnd → Type 0
StopsAt n old leaf new end = (strict : Bool) (before now low : ℕ) (patient : Bool) → (IsTrue patient → ⊥)
    → AsksNode n.searched.day.instance.now n.searched.day.graph.now strict before now low old leaf n.cuts.now
    → EndsTurn n.searched.day.instance.now n.searched.day.graph.now strict before now low patient old new end

-- a leaf at the node is not processed, over a master with this count
abbrev pub IsOpenLeafAt : OpenNode → Bool → ℕ → Progress → OpenLeaf → Type 0
IsOpenLeafAt n strict now p leaf = (before : ℕ) × (low : ℕ)
    × AsksNode n.searched.day.instance.now n.searched.day.graph.now strict before now low p leaf n.cuts.now

-- its turn ends then, with that count
abbrev pub EndsTurnOver : OpenNode → Bool → ℕ → ℕ → Bool → Progress → OpenLeaf → Progress → TurnEnd → Type 0
EndsTurnOver n strict now later patient old leaf new end = (before low : ℕ)
    → AsksNode n.searched.day.instance.now n.searched.day.graph.now strict before now low old leaf n.cuts.now
    → EndsTurn n.searched.day.instance.now n.searched.day.graph.now strict before later low patient old new end

-- a leaf at the node is not processed, and its master was given up
abbrev pub IsGivenUpAt : OpenNode → Progress → OpenLeaf → Type 0
IsGivenUpAt n p leaf = (strict : Bool) × (before : ℕ) × (now : ℕ) × (low : ℕ) × (later : ℕ)
    × AsksNode n.searched.day.instance.now n.searched.day.graph.now strict before now low p leaf n.cuts.now
    × IsGivenUp n.searched.day.instance.now strict now later n.cuts.now

-- it is processed then
abbrev pub IsTurnedFailing : OpenNode → Progress → OpenLeaf → Progress → Type 0
IsTurnedFailing n old leaf new = (strict : Bool) (before now low later : ℕ)
    → AsksNode n.searched.day.instance.now n.searched.day.graph.now strict before now low old leaf n.cuts.now
    → IsGivenUp n.searched.day.instance.now strict now later n.cuts.now
    → IsTurned n.searched.day.instance.now n.searched.day.graph.now strict before later low old new
