-- The texts of rules that cost nothing and of a relaxed day, and what they are read as.
use Rattle.std.specs.Prelude.{ℕ, ◌≡◌, List, Ok}
use Rattle.model_rosters.specs.declared.grammar.Grammar.{Grammar}
use Rattle.model_rosters.specs.declared.instance.Instance.{Instance}
use Rattle.model_rosters.specs.Demands.{Demand}
use Rattle.model_rosters.specs.Sound.{IsSound, IsPlain}
use Rattle.model_rosters.specs.SoundInstance.{IsSoundInstance}
use Rattle.text_rules.specs.RulesOf.{IsReading}
use Rattle.text_rules.specs.Written.{rules_text}
use Rattle.text_demand.specs.InstanceOf.{day_grammar, instance_of}
use Rattle.text_demand.specs.Written.{AreDemandsOf, demand_text}
use Rattle.text_relaxed_days.specs.declared.kind.Kind.{Kind}
use Rattle.text_relaxed_days.specs.FreeRules.{free_rules}
use Rattle.text_relaxed_days.specs.Laws.{TellsHowFar}
use Rattle.text_relaxed_days.specs.Relaxed.{relaxed_demand, relaxed}

-- the text of the rules at no cost, which is read as these rules
pub record AreFreeRulesSaid (g : Grammar) (output : List ℕ) : Type 0 where
  pub text : output ≡ rules_text (free_rules g)
  pub again : IsReading output (Ok (free_rules g))

-- the text of the relaxed day, which by the day's rules at no cost is read as the relaxed day, and that this tells
-- how far the day is from having a roster
pub record IsRelaxedSaid (kind : Kind) (i : Instance) (output : List ℕ) : Type 0 where
  pub sound : IsSoundInstance (relaxed_demand kind i)
  pub tells : TellsHowFar kind i
  pub text : (ds : List Demand) → AreDemandsOf (relaxed_demand kind i) ds
      → output ≡ demand_text (relaxed_demand kind i) ds
  pub again : (g : Grammar) → IsSound g → IsPlain g → i.grammar ≡ day_grammar g i.groups
      → instance_of (free_rules g) output ≡ Ok (relaxed kind i)
