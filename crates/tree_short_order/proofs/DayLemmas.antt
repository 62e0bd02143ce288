-- The walk from the root, or from an arc that makes it, into an empty room.
use Rattle.std.proofs.Common.{◌≡◌, ℕ, ◌+◌, ◌≤◌, List, [], ◌++◌, Option, Some, arith, subst, sym, ap, ◌∙◌, length}
use Rattle.std.specs.Prelude.{slice_get}
use Rattle.model_rosters.specs.declared.grammar.ArcKey.{ArcKey}
use Rattle.model_rosters.specs.declared.grammar.Grammar.{Grammar}
use Rattle.model_rosters.specs.declared.grammar.Step.{Step}
use Rattle.model_rosters.specs.Room.{RoomView, most_uses}
use Rattle.model_rosters.specs.Sound.{IsSound}
use Rattle.model_rosters.specs.Trees.{Parts, IsDayTree, steps}
use Rattle.model_rosters.specs.tree_laws.DaySteps.{AreDaySteps}
use Rattle.model_rosters.specs.tree_laws.Parts.{use_count}
use Rattle.model_rosters.proofs.tree_laws.Bounds.{few-steps}
use Rattle.model_rosters.proofs.tree_laws.Size.{length-steps}
use Rattle.model_rosters.specs.arc_laws.OrNodes.{OrNode, made, root_of}
use Rattle.model_rosters.specs.arc_laws.AtNodes.{IsAt, start_of}
use Rattle.model_rosters.proofs.arc_laws.AtNodesLemmas.{made_start}
use Rattle.tree_graph.specs.Graphs.{GraphView, IsRoot}
use Rattle.tree_cheapest.specs.AtNodes.{top_arc}
use Rattle.tree_cheapest.specs.Under.{IsDayTreeUnder}
use Rattle.tree_cheapest.specs.Walks.{HasRoom}
use Rattle.tree_short_order.specs.Best.{AreBest}
use Rattle.tree_short_order.specs.Shorts.{AsksDayTree, AsksDayTreeUnder, HoldsTreeUnder}
use Rattle.tree_short_order.specs.Walks.{AsksNode, WritesAt, WritesNode, AsksArc, WritesUnder, WritesArc}

-- an empty room has room for each tree of the day
pub day-room : (g : Grammar) (old room : RoomView) → IsSound g → old.most ≡ most_uses g → room ≡ record old { steps = [] } → HasRoom g (root_of g) room
day-room g old room sound is cleared t h =
    let few = few-steps g sound t g.start 1 g.periods sound.some_period h in
    let none : length room.steps ≡ 0 = ap (λ (q : RoomView). length q.steps) cleared in
    let most : room.most ≡ most_uses g = ap (λ (q : RoomView). q.most) cleared ∙ is in
    let count = length-steps t 1 in
    omega (arith, few, none, most, count)

module _ (g : Grammar) (v : GraphView) (best : List ℕ) (old room : RoomView) (n : ℕ) (asks : AsksDayTree g v old) (are : AreBest v best)
    (cleared : room ≡ record old { steps = [] }) (root : v.root ≡ Some n) where
  -- what is asked at the root
  abbrev pub asks-root : AsksNode v best n room
  asks-root = record {
    g = g;
    sound = asks.sound;
    graph = asks.graph;
    are_best = are;
    node = root_of g;
    at = subst (λ (q : Option ℕ). IsRoot g v.nodes q) root asks.graph.root;
    space = day-room g old room asks.sound asks.space cleared;
  }

  -- the steps that were written are those of a tree of the day
  pub holds-root : (new : RoomView) → WritesNode v best n room new → AreDaySteps g new.steps
  holds-root new wrote =
      let t : WritesAt g (root_of g) 1 room new = wrote asks-root in
      let empty : room.steps ≡ [] = ap (λ (q : RoomView). q.steps) cleared in
      (t.0, t.1, ap (λ (q : RoomView). q.steps) t.2 ∙ ap (λ (q : List Step). q ++ steps 1 t.0) empty)

  pub most-kept : (new : RoomView) → WritesNode v best n room new → new.most ≡ old.most
  most-kept new wrote =
      let t : WritesAt g (root_of g) 1 room new = wrote asks-root in
      ap (λ (q : RoomView). q.most) t.2 ∙ ap (λ (q : RoomView). q.most) cleared

module _ (g : Grammar) (v : GraphView) (best : List ℕ) (old room : RoomView) (arc : ℕ) (a : ArcKey) (asks : AsksDayTreeUnder g v arc a old) (are : AreBest v best)
    (cleared : room ≡ record old { steps = [] }) where
  -- what is asked at the arc
  abbrev pub asks-under : AsksArc v best arc room
  asks-under = record {
    g = g;
    sound = asks.sound;
    graph = asks.graph;
    are_best = are;
    key = a;
    at = asks.top.at;
    space = subst (λ (o : OrNode). HasRoom g o room) (sym asks.top.makes) (day-room g old room asks.sound asks.space cleared);
  }

  -- the steps that were written are those of such a tree
  pub holds-under : (new : RoomView) → WritesArc v best arc room new → HoldsTreeUnder g a new
  holds-under new wrote =
      let t : WritesUnder g a room new = wrote asks-under in
      let empty : room.steps ≡ [] = ap (λ (q : RoomView). q.steps) cleared in
      let start : a.start ≡ 1 = sym (made_start g a.rule a.suffix a.start a.len) ∙ ap start_of asks.top.makes in
      record {
        tree = t.0;
        of_day = subst (λ (o : OrNode). IsAt g o t.0 × (top_arc o t.0 ≡ a)) asks.top.makes t.1;
        held = ap (λ (q : RoomView). q.steps) t.2 ∙ ap (λ (q : List Step). q ++ steps a.start t.0) empty ∙ ap (λ (n : ℕ). steps n t.0) start;
      }

  pub most-under : (new : RoomView) → WritesArc v best arc room new → new.most ≡ old.most
  most-under new wrote =
      let t : WritesUnder g a room new = wrote asks-under in
      ap (λ (q : RoomView). q.most) t.2 ∙ ap (λ (q : RoomView). q.most) cleared
