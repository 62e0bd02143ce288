-- Arcs to which the cuts of a path leave more than one count.
use Rattle.std.specs.Prelude.{◌<◌, List}
use Rattle.model_rosters.specs.declared.grammar.ArcKey.{ArcKey}
use Rattle.model_rosters.specs.declared.instance.Cut.{Cut}
use Rattle.model_rosters.specs.declared.instance.Instance.{Instance}
use Rattle.model_rosters.specs.Arcs.{IsArc, ArcBefore}
use Rattle.model_rosters.specs.Cuts.{lo, hi}

-- the cuts leave the arc more than one count
abbrev pub IsLoose : Instance → List Cut → ArcKey → Type 0
IsLoose i cuts a = lo cuts a < hi i.heads_max cuts a

-- the first arc of the instance to which the cuts leave more than one count
pub record IsFirstLoose (i : Instance) (cuts : List Cut) (a : ArcKey) : Type 0 where
  pub arc : IsArc i.grammar a
  pub loose : IsLoose i cuts a
  pub first : (x : ArcKey) → IsArc i.grammar x → ArcBefore x a → IsLoose i cuts x → ⊥
