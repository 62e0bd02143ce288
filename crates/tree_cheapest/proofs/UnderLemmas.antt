-- The trees of the day with a given arc at the top, by the values of a filled pricer.
use Rattle.std.proofs.Common.{◌≡◌, ℕ, ℤ, ◌+◌, ◌≤◌, ◌<◌, ◌^◌, List, [], ◌++◌, Option, Some, IfSome, arith, subst, sym, ap, ◌∙◌, length, get_or}
use Rattle.std.specs.Prelude.{slice_get, slice_index}
use Rattle.std.proofs.lemmas.Option.{slice_get_within, slice_get-get_or, get_or_from_slice_get}
use Rattle.model_rosters.specs.declared.grammar.ArcKey.{ArcKey}
use Rattle.model_rosters.specs.declared.grammar.Grammar.{Grammar}
use Rattle.model_rosters.specs.declared.grammar.Step.{Step}
use Rattle.model_rosters.specs.Room.{RoomView, most_uses}
use Rattle.model_rosters.specs.Trees.{Parts, IsDayTree, steps}
use Rattle.model_rosters.specs.Sums.{PriceView, Within, AllWithin, IsLeast, tree_sum}
use Rattle.model_rosters.specs.tree_laws.Parts.{use_count}
use Rattle.model_rosters.proofs.tree_laws.Bounds.{few-steps}
use Rattle.model_rosters.proofs.tree_laws.LeastValues.{least_there}
use Rattle.model_rosters.proofs.tree_laws.Size.{length-steps}
use Rattle.model_rosters.specs.arc_laws.OrNodes.{OrNode, made, used, root_of}
use Rattle.model_rosters.specs.arc_laws.AtNodes.{IsAt}
use Rattle.tree_graph.specs.Graphs.{GraphView, AreKids}
use Rattle.tree_cheapest.specs.declared.slots.Links.{Links}
use Rattle.tree_cheapest.specs.AtNodes.{sum_at, top_arc, arc_total}
use Rattle.tree_cheapest.specs.Links.{IsLink}
use Rattle.tree_cheapest.specs.Pricers.{PricerView, value_at, IsMadeFor}
use Rattle.tree_cheapest.specs.Under.{IsTop, IsReady, IsDayTreeUnder, AsksTreeUnder, HoldsLeastUnder}
use Rattle.tree_cheapest.specs.Walks.{AsksArc, WritesUnder, WritesArc}
use Rattle.tree_cheapest.proofs.StandLemmas.{arc-standing}
use Rattle.tree_cheapest.proofs.TopArcLemmas.{KidsLeast, arc-least}
use Rattle.tree_cheapest.proofs.PassesLemmas.{kids-least, kids-small, kids-inside}
use Rattle.tree_cheapest.proofs.LinksLemmas.{link-kids, value-read}

module _ (g : Grammar) (p : PriceView) (v : GraphView) (w : PricerView) (ready : IsReady g p v w) (made_for : IsMadeFor v w) (arc : ℕ) (inside : arc < length v.arcs) where
  pub its-key : (a : ArcKey) × (slice_get v.arcs arc ≡ Some a)
  its-key = (get_or v.arcs arc (record { rule = 0; suffix = 0; start = 0; len = 0; part = 0 }), slice_get-get_or v.arcs arc _ inside)

  linked : IsLink v w.letters arc (slice_index w.links.made arc) (slice_index w.links.first arc) (slice_index w.links.rest arc)
  linked = made_for.links.each arc inside

  module _ (a : ArcKey) (at : slice_get v.arcs arc ≡ Some a) where
    kids : AreKids v.nodes (used g a) linked.kids
    kids = link-kids g v ready.graph w.letters arc a at (slice_index w.links.made arc) (slice_index w.links.first arc) (slice_index w.links.rest arc) linked

    least_kids : KidsLeast g p (used g a) (value_at w.values (slice_index w.links.first arc)) (value_at w.values (slice_index w.links.rest arc))
    least_kids = kids-least g p v ready.graph w.letters w.values ready.filled.priced a (λ n o there h. ready.filled.nodes n o there)
        linked.kids (slice_index w.links.first arc) (slice_index w.links.rest arc) linked.first linked.rest kids

    -- of what stands at the node with the arc at the top
    pub least-under : IsLeast (λ t. IsAt g (made g a) t × (top_arc (made g a) t ≡ a)) (sum_at p (made g a)) (arc_total p a (value_at w.values (slice_index w.links.first arc)) (value_at w.values (slice_index w.links.rest arc)))
    least-under = arc-least g p a (arc-standing g a (ready.graph.arcs.sound arc a at)) _ _ least_kids

    -- of the day's trees
    pub day-under : made g a ≡ root_of g → IsLeast (IsDayTreeUnder g a) (tree_sum p 1) (arc_total p a (value_at w.values (slice_index w.links.first arc)) (value_at w.values (slice_index w.links.rest arc)))
    day-under makes = subst (λ (o : OrNode). IsLeast (λ t. IsAt g o t × (top_arc o t ≡ a)) (sum_at p o) (arc_total p a (value_at w.values (slice_index w.links.first arc)) (value_at w.values (slice_index w.links.rest arc)))) makes least-under

    module _ (all : AllWithin (2 ^ 96) p) where
      pub small-below : IfSome (value_at w.values (slice_index w.links.first arc)) (Within (2 ^ 110)) × IfSome (value_at w.values (slice_index w.links.rest arc)) (Within (2 ^ 110))
      small-below = kids-small g p v ready.graph ready.sound all w.letters w.values ready.filled.priced ready.filled.nodes (used g a) linked.kids _ _ kids linked.first linked.rest

      pub inside-below : (slice_index w.links.first arc < length w.values) × (slice_index w.links.rest arc < length w.values)
      inside-below = kids-inside g p v ready.graph ready.sound all w.letters w.values ready.filled.priced ready.filled.nodes (length w.values) made_for.slots (used g a) linked.kids _ _ kids linked.first linked.rest

module _ (g : Grammar) (p : PriceView) (v : GraphView) (w : PricerView) (links : Links) (best : List ℕ) (old room : RoomView) (arc : ℕ) (a : ArcKey) (asks : AsksTreeUnder g p v w arc a old)
    (made_for : IsMadeFor v w) (same_links : w.links ≡ links) (same_best : w.best ≡ best) (cleared : room ≡ record old { steps = [] }) where
  abbrev pub total : Option ℤ
  total = arc_total p a (value_at w.values (slice_index w.links.first arc)) (value_at w.values (slice_index w.links.rest arc))

  pub inside : arc < length v.arcs
  inside = slice_get_within v.arcs arc a asks.top.at

  pub day : IsLeast (IsDayTreeUnder g a) (tree_sum p 1) total
  day = day-under g p v w asks.ready made_for arc inside a asks.top.at asks.top.makes

  pub there : (y : ℤ) × (total ≡ Some y)
  there = least_there (IsDayTreeUnder g a) (tree_sum p 1) total asks.sum.0 day asks.sum.1 asks.sum.2

  -- what is asked of the walk
  abbrev pub asks-under : AsksArc v links best arc room
  asks-under = record {
    g = g;
    p = p;
    w = w;
    sound = asks.ready.sound;
    graph = asks.ready.graph;
    made = made_for;
    filled = asks.ready.filled;
    same_links = same_links;
    same_best = same_best;
    node = root_of g;
    value = total;
    chosen = record { key = a; at = asks.top.at; makes = asks.top.makes; least = day };
    sum = there.0;
    some = there.1;
    space = space;
  }
    where
      space : (t : Parts) → IsDayTree g t → length room.steps + use_count t ≤ room.most
      space t h =
          let few = few-steps g asks.ready.sound t g.start 1 g.periods asks.ready.sound.some_period h in
          let none : length room.steps ≡ 0 = ap (λ (q : RoomView). length q.steps) cleared in
          let most : room.most ≡ most_uses g = ap (λ (q : RoomView). q.most) cleared ∙ asks.space in
          let count = length-steps t 1 in
          omega (arith, few, none, most, count)

  -- the tree that was written
  pub holds-under : (new : RoomView) → WritesArc v links best arc room new → HoldsLeastUnder g p a new
  holds-under new wrote =
      let t : WritesUnder g p (root_of g) a 1 room new = wrote asks-under in
      let empty : room.steps ≡ [] = ap (λ (q : RoomView). q.steps) cleared in
      record {
        tree = t.0;
        of_day = t.1;
        least = t.2;
        held = ap (λ (q : RoomView). q.steps) t.3 ∙ ap (λ (q : List Step). q ++ steps 1 t.0) empty;
      }

  pub most-under : (new : RoomView) → WritesArc v links best arc room new → new.most ≡ old.most
  most-under new wrote =
      let t : WritesUnder g p (root_of g) a 1 room new = wrote asks-under in
      ap (λ (q : RoomView). q.most) t.3 ∙ ap (λ (q : RoomView). q.most) cleared

-- a value that was read from a list that is this one, at this place
pub value-below : (xs ys : List (Option ℤ)) (k j : ℕ) (d r : Option ℤ) → xs ≡ ys → k ≡ j → j < length xs → r ≡ get_or ys k d → r ≡ value_at xs j
value-below xs ys k j d r same index inside e =
    let there : r ≡ get_or xs j d = e ∙ ap (λ (n : ℕ). get_or ys n d) index ∙ ap (λ (zs : List (Option ℤ)). get_or zs j d) (sym same) in
    value-read xs j d r inside there

-- so the sum of the arc is least
pub sum-under : (g : Grammar) (p : PriceView) (v : GraphView) (w : PricerView) (ready : IsReady g p v w) (made_for : IsMadeFor v w) (arc : ℕ) (inside : arc < length v.arcs) (a : ArcKey) → IsTop g v arc a
    → (arcs : List ArcKey) (d : ArcKey) (first rest result : Option ℤ) → arcs ≡ v.arcs → first ≡ value_at w.values (slice_index w.links.first arc) → rest ≡ value_at w.values (slice_index w.links.rest arc)
    → result ≡ arc_total p (get_or arcs arc d) first rest → IsLeast (IsDayTreeUnder g a) (tree_sum p 1) result
sum-under g p v w ready made_for arc inside a top arcs d first rest result same one two e =
    let key : get_or arcs arc d ≡ a = ap (λ (q : List ArcKey). get_or q arc d) same ∙ get_or_from_slice_get v.arcs arc a d top.at in
    let total : result ≡ arc_total p a (value_at w.values (slice_index w.links.first arc)) (value_at w.values (slice_index w.links.rest arc)) =
    e ∙ ap (λ (q : ArcKey). arc_total p q first rest) key ∙ ap (λ (q : Option ℤ). arc_total p a q rest) one ∙ ap (λ (q : Option ℤ). arc_total p a (value_at w.values (slice_index w.links.first arc)) q) two in
    subst (λ (q : Option ℤ). IsLeast (IsDayTreeUnder g a) (tree_sum p 1) q) (sym total) (day-under g p v w ready made_for arc inside a top.at top.makes)
