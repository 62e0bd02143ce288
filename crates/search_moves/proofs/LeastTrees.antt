-- What is asked for trees of least sum, where there is a sum.
use Rattle.std.proofs.Common.{◌≡◌, ◌≢◌, ℕ, ℤ, Option, None, Some, [], refl, subst, sym}
use Rattle.std.specs.Prelude.{IsSome, slice_get}
use Rattle.model_rosters.specs.declared.grammar.ArcKey.{ArcKey}
use Rattle.model_rosters.specs.declared.grammar.Grammar.{Grammar}
use Rattle.model_rosters.specs.declared.instance.Instance.{Instance}
use Rattle.model_rosters.specs.Folds.{In}
use Rattle.model_rosters.specs.Room.{RoomView, most_uses}
use Rattle.model_rosters.specs.SoundInstance.{IsSoundInstance}
use Rattle.model_rosters.specs.Sums.{PriceView, IsLeast, tree_sum}
use Rattle.model_rosters.specs.Teams.{Team, teams}
use Rattle.model_rosters.specs.Trees.{IsDayTree}
use Rattle.tree_graph.specs.Graphs.{GraphView, IsGraph}
use Rattle.tree_cheapest.specs.Pricers.{PricerView, IsFilled, AsksTree}
use Rattle.tree_cheapest.specs.Under.{IsTop, IsReady, IsDayTreeUnder, AsksTreeUnder, HoldsLeastUnder}
use Rattle.search_candidates.proofs.LeadersLemmas.{key_of, makes-root}
use Rattle.model_rosters.specs.tree_laws.DaySteps.{AreDaySteps}

module _ (i : Instance) (sound : IsSoundInstance i) (p : PriceView) (v : GraphView) (w : PricerView) (graph : IsGraph i.grammar v) (filled : IsFilled i.grammar p v w) where
  pub is-ready : IsReady i.grammar p v w
  is-ready = record { sound = sound.grammar; graph = graph; filled = filled }

  pub asks-day : (z : Option ℤ) → (z ≡ None → ⊥) → IsLeast (IsDayTree i.grammar) (tree_sum p 1) z → (room : RoomView) → room.most ≡ most_uses i.grammar → AsksTree i.grammar p v w room
  asks-day None some least room space = absurd (some refl)
  asks-day (Some z) some least room space = record {
    sound = sound.grammar;
    graph = graph;
    filled = filled;
    sum = (least.attained.0, least.attained.1, subst IsSome (sym least.attained.2) refl);
    space = space;
  }

  module _ (some : i.groups ≢ []) (o : Team) (listed : In o (teams i)) (arc : ℕ) (at : slice_get v.arcs arc ≡ Some (key_of i sound some o listed)) where
    pub is-top : IsTop i.grammar v arc (key_of i sound some o listed)
    is-top = record { at = at; makes = makes-root i sound some o listed }

    pub asks-under : (z : Option ℤ) → (z ≡ None → ⊥) → IsLeast (IsDayTreeUnder i.grammar (key_of i sound some o listed)) (tree_sum p 1) z → (room : RoomView) → room.most ≡ most_uses i.grammar
        → AsksTreeUnder i.grammar p v w arc (key_of i sound some o listed) room
    asks-under None there least room space = absurd (there refl)
    asks-under (Some z) there least room space = record {
      ready = is-ready;
      top = is-top;
      sum = (least.attained.0, least.attained.1, subst IsSome (sym least.attained.2) refl);
      space = space;
    }

pub under-steps : (g : Grammar) (p : PriceView) (a : ArcKey) (room : RoomView) → HoldsLeastUnder g p a room → AreDaySteps g room.steps
under-steps g p a room h = (h.tree, h.of_day.0, h.held)
