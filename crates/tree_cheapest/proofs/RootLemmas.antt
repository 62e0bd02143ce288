-- The walk from the root into an empty room.
use Rattle.std.proofs.Common.{◌≡◌, ℕ, ℤ, ◌+◌, ◌≤◌, List, [], ◌++◌, Option, Some, arith, subst, ap, ◌∙◌, length}
use Rattle.std.specs.Prelude.{slice_get}
use Rattle.model_rosters.specs.declared.grammar.Grammar.{Grammar}
use Rattle.model_rosters.specs.declared.grammar.Step.{Step}
use Rattle.model_rosters.specs.Room.{RoomView, most_uses}
use Rattle.model_rosters.specs.Trees.{Parts, IsDayTree, steps}
use Rattle.model_rosters.specs.Sums.{PriceView, tree_sum}
use Rattle.model_rosters.specs.tree_laws.Parts.{use_count}
use Rattle.model_rosters.proofs.tree_laws.Bounds.{few-steps}
use Rattle.model_rosters.proofs.tree_laws.Size.{length-steps}
use Rattle.model_rosters.specs.arc_laws.OrNodes.{root_of}
use Rattle.tree_graph.specs.Graphs.{GraphView, IsRoot}
use Rattle.tree_cheapest.specs.declared.slots.Links.{Links}
use Rattle.model_rosters.specs.tree_laws.LeastTrees.{HoldsLeastTree}
use Rattle.model_rosters.proofs.tree_laws.LeastValues.{least_there}
use Rattle.tree_cheapest.specs.Pricers.{PricerView, value_at, IsMadeFor, AsksTree}
use Rattle.tree_cheapest.specs.Walks.{AsksNode, WritesAt, WritesNode}

module _ (g : Grammar) (p : PriceView) (v : GraphView) (w : PricerView) (links : Links) (best : List ℕ) (old room : RoomView) (n : ℕ) (asks : AsksTree g p v w old)
    (made : IsMadeFor v w) (same_links : w.links ≡ links) (same_best : w.best ≡ best) (cleared : room ≡ record old { steps = [] }) (root : v.root ≡ Some n) where
  -- the root is the start name on the day
  pub root-there : slice_get v.nodes n ≡ Some (root_of g)
  root-there = subst (λ (q : Option ℕ). IsRoot g v.nodes q) root asks.graph.root

  -- and has a value
  pub root-value : (y : ℤ) × (value_at w.values n ≡ Some y)
  root-value = least_there (IsDayTree g) (tree_sum p 1) (value_at w.values n) asks.sum.0 (asks.filled.nodes n (root_of g) root-there) asks.sum.1 asks.sum.2

  -- what is asked at the root
  abbrev pub asks-root : AsksNode v links best n room
  asks-root = record {
    g = g;
    p = p;
    w = w;
    sound = asks.sound;
    graph = asks.graph;
    made = made;
    filled = asks.filled;
    same_links = same_links;
    same_best = same_best;
    node = root_of g;
    at = root-there;
    sum = root-value.0;
    value = root-value.1;
    space = space;
  }
    where
      space : (t : Parts) → IsDayTree g t → length room.steps + use_count t ≤ room.most
      space t h =
          let few = few-steps g asks.sound t g.start 1 g.periods asks.sound.some_period h in
          let none : length room.steps ≡ 0 = ap (λ (q : RoomView). length q.steps) cleared in
          let most : room.most ≡ most_uses g = ap (λ (q : RoomView). q.most) cleared ∙ asks.space in
          let count = length-steps t 1 in
          omega (arith, few, none, most, count)

  -- the tree that was written is one of the day of least sum
  pub holds-root : (new : RoomView) → WritesNode v links best n room new → HoldsLeastTree g p new
  holds-root new wrote =
      let t : WritesAt g p (root_of g) 1 room new = wrote asks-root in
      let empty : room.steps ≡ [] = ap (λ (q : RoomView). q.steps) cleared in
      record {
        tree = t.0;
        of_day = t.1;
        least = t.2;
        held = ap (λ (q : RoomView). q.steps) t.3 ∙ ap (λ (q : List Step). q ++ steps 1 t.0) empty;
      }

  pub most-kept : (new : RoomView) → WritesNode v links best n room new → new.most ≡ old.most
  most-kept new wrote =
      let t : WritesAt g p (root_of g) 1 room new = wrote asks-root in
      ap (λ (q : RoomView). q.most) t.3 ∙ ap (λ (q : RoomView). q.most) cleared
