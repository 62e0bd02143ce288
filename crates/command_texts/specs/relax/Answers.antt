-- What `relax-rules RULES` and `relax-demand RULES DEMAND KIND` answer.
use Rattle.std.specs.Prelude.{ℕ, ◌≡◌, List}
use Rattle.model_rosters.specs.declared.grammar.Grammar.{Grammar}
use Rattle.model_rosters.specs.declared.instance.Instance.{Instance}
use Rattle.text_relaxed_days.specs.declared.kind.Kind.{Kind}
use Rattle.text_relaxed_days.specs.Said.{AreFreeRulesSaid, IsRelaxedSaid}

-- status 0: the text of the rules at no cost
pub record RelaxedRules (g : Grammar) (status : ℕ) (output : List ℕ) : Type 0 where
  pub status_is : status ≡ 0
  pub said : AreFreeRulesSaid g output

-- status 0: the text of the day whose floors, or ceilings, are counted in place of being strict
pub record RelaxedDemand (kind : Kind) (i : Instance) (status : ℕ) (output : List ℕ) : Type 0 where
  pub status_is : status ≡ 0
  pub said : IsRelaxedSaid kind i output
