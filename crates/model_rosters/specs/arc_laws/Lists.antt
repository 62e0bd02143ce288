-- The arcs of the instance as a list.
use Rattle.std.specs.Prelude.{◌≡◌, List, [], ◌∷◌, ℕ, Some, slice_get}
use Rattle.model_rosters.specs.declared.grammar.ArcKey.{ArcKey}
use Rattle.model_rosters.specs.declared.grammar.Grammar.{Grammar}
use Rattle.model_rosters.specs.Folds.{count, Each, In}
use Rattle.model_rosters.specs.Arcs.{IsArc, ArcBefore, same_arc}

-- each arc comes before all that follow it
abbrev pub IsRising : List ArcKey → Type 0
IsRising [] = Unit {0}
IsRising (a ∷ listed) = Each (ArcBefore a) listed × IsRising listed

-- the arcs of the instance and no others, in their order
pub record AreArcs (g : Grammar) (listed : List ArcKey) : Type 0 where
  pub sound : (a : ArcKey) → In a listed → IsArc g a
  pub whole : (a : ArcKey) → IsArc g a → In a listed
  pub rising : IsRising listed

-- the arcs of the instance and no others, each once, in any order
pub record HoldsArcsOnce (g : Grammar) (listed : List ArcKey) : Type 0 where
  pub sound : (a : ArcKey) → In a listed → IsArc g a
  pub whole : (a : ArcKey) → IsArc g a → In a listed
  pub once : (a : ArcKey) → In a listed → count (same_arc a) listed ≡ 1

-- each arc stands at one place
abbrev pub StandOnce : List ArcKey → Type 0
StandOnce listed = (p q : ℕ) (a : ArcKey) → slice_get listed p ≡ Some a → slice_get listed q ≡ Some a → p ≡ q
