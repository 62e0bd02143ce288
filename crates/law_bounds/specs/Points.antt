-- How many ways there are to give each arc of the instance a count.
use Rattle.std.specs.Prelude.{ℕ, ◌≡◌, ◌+◌, ◌^◌, List, length}
use Rattle.model_rosters.specs.declared.grammar.ArcKey.{ArcKey}
use Rattle.model_rosters.specs.declared.instance.Instance.{Instance}
use Rattle.model_rosters.specs.arc_laws.Lists.{AreArcs}

-- each count is from 0 to the greatest number of employees
pub record IsPoints (i : Instance) (points : ℕ) : Type 0 where
  pub listed : List ArcKey
  pub are : AreArcs i.grammar listed
  pub value : points ≡ (i.heads_max + 1) ^ length listed
