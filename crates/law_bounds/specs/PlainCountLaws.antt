-- The laws of balanced counts that hold without floors and ceilings.
use Rattle.std.specs.Prelude.{ℕ, ◌≤◌, ◌↔◌, List}
use Rattle.model_rosters.specs.declared.grammar.ArcKey.{ArcKey}
use Rattle.model_rosters.specs.declared.grammar.Grammar.{Grammar}
use Rattle.model_rosters.specs.declared.instance.Cut.{Cut}
use Rattle.model_rosters.specs.declared.instance.Instance.{Instance}
use Rattle.model_rosters.specs.Arcs.{Letter}
use Rattle.model_rosters.specs.SoundInstance.{IsSoundInstance}
use Rattle.model_rosters.specs.arc_laws.OrNodes.{leaf}
use Rattle.model_rosters.specs.arc_laws.Balance.{used_sum, IsBalanced}
use Rattle.model_rosters.specs.arc_laws.Counts.{root_count}
use Rattle.model_rosters.specs.arc_laws.Lists.{AreArcs}
use Rattle.law_bounds.specs.Pinned.{IsPinnedValue}
use Rattle.law_bounds.specs.Plain.{IsPlainDay}
use Rattle.law_bounds.specs.PlainCounts.{IsPlainPinnedValue}

-- no letter of the day is counted more often than there are trees
abbrev pub LettersWithinHeads : Type 0
LettersWithinHeads =
    (g : Grammar) (listed : List ArcKey) (value : ArcKey → ℕ) (l : Letter) → AreArcs g listed
    → IsBalanced g listed value → 1 ≤ l.period → l.period ≤ g.periods
    → used_sum g listed value (leaf l) ≤ root_count g listed value

-- on a plain day the pinned value is this
abbrev pub PlainPinned : Type 0
PlainPinned = (i : Instance) (cuts : List Cut) (v : ℕ) → IsSoundInstance i → IsPlainDay i
    → (IsPinnedValue i cuts v ↔ IsPlainPinnedValue i cuts v)
