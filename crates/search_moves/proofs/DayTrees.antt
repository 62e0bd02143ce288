-- What is asked for trees of the day, and of a team that is a group.
use Rattle.std.proofs.Common.{◌≡◌, ◌≢◌, ℕ, ℤ, Option, None, Some, [], refl}
use Rattle.std.specs.Prelude.{IfSome, slice_get}
use Rattle.model_rosters.specs.declared.grammar.ArcKey.{ArcKey}
use Rattle.model_rosters.specs.declared.grammar.Grammar.{Grammar}
use Rattle.model_rosters.specs.declared.instance.Instance.{Instance}
use Rattle.model_rosters.specs.Folds.{In}
use Rattle.model_rosters.specs.Room.{RoomView, most_uses}
use Rattle.model_rosters.specs.SoundInstance.{IsSoundInstance}
use Rattle.model_rosters.specs.Teams.{Team, teams}
use Rattle.model_rosters.specs.tree_laws.DaySteps.{AreDaySteps}
use Rattle.tree_graph.specs.Graphs.{GraphView, IsGraph}
use Rattle.search_candidates.proofs.LeadersLemmas.{key_of, makes-root}
use Rattle.tree_short_order.specs.Shorts.{HasRoot, AsksDayTree, AsksDayTreeUnder, HoldsTreeUnder}

module _ (i : Instance) (sound : IsSoundInstance i) (v : GraphView) (graph : IsGraph i.grammar v) (room : RoomView) (space : room.most ≡ most_uses i.grammar) where
  pub asks-short-day : (z : Option ℤ) → (z ≡ None → ⊥) → IfSome z (λ (n : ℤ). HasRoot v) → AsksDayTree i.grammar v room
  asks-short-day None some root = absurd (some refl)
  asks-short-day (Some z) some root = record { sound = sound.grammar; graph = graph; some = root; space = space }

  pub asks-short-under : (some : i.groups ≢ []) (o : Team) (listed : In o (teams i)) (arc : ℕ) → slice_get v.arcs arc ≡ Some (key_of i sound some o listed)
      → AsksDayTreeUnder i.grammar v arc (key_of i sound some o listed) room
  asks-short-under some o listed arc at = record {
    sound = sound.grammar;
    graph = graph;
    top = record { at = at; makes = makes-root i sound some o listed };
    space = space;
  }

pub short-steps : (g : Grammar) (a : ArcKey) (room : RoomView) → HoldsTreeUnder g a room → AreDaySteps g room.steps
short-steps g a room h = (h.tree, h.of_day.0, h.held)
