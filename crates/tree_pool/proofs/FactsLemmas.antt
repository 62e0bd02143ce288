-- What is kept with a tree.
use Rattle.std.proofs.Common.{◌≡◌, ◌≤◌, List, ◌∷◌, [], All, length, sym, ap, subst, ◌∙◌, arith}
use Rattle.model_rosters.specs.declared.grammar.Grammar.{Grammar}
use Rattle.model_rosters.specs.declared.grammar.Step.{Step}
use Rattle.model_rosters.specs.declared.grammar.Sym.TheVariants.{Name}
use Rattle.model_rosters.specs.Folds.{sum_n}
use Rattle.model_rosters.specs.Sound.{IsSound}
use Rattle.tree_pool.specs.declared.facts.Facts.{Facts}
use Rattle.tree_pool.specs.Costs.{HasRule, step_cost}
use Rattle.tree_pool.specs.Entries.{TellFacts}
use Rattle.tree_pool.specs.Letters.{AreCodesOf}
use Rattle.tree_pool.specs.Pools.{HasArcsOf, letters_from}
use Rattle.tree_pool.proofs.CostsLemmas.{cost_steps, steps_ruled, few_steps}
use Rattle.tree_pool.proofs.LettersLemmas.{letters-are}
use Rattle.model_rosters.specs.tree_laws.DaySteps.{AreDaySteps}

module _ (g : Grammar) (sound : IsSound g) (xs : List Step) where
  pub day-ruled : AreDaySteps g xs → All (HasRule g) xs
  day-ruled d = subst (λ (ys : List Step). All (HasRule g) ys) (sym d.2) (steps_ruled g d.0 (Name g.start ∷ []) 1 d.1.0)

  pub day-few : AreDaySteps g xs → length xs ≤ 6303
  day-few d = omega (arith, few_steps g sound d.0 d.1, ap length d.2)

  pub facts-told : (f : Facts) → AreCodesOf g xs f.codes → HasArcsOf g xs f.arcs → f.cost ≡ sum_n (step_cost g) xs → TellFacts g xs f
  facts-told f codes listed sum t day e = record {
    day = day;
    steps = e;
    letters = letters-are g t (Name g.start ∷ []) 1 day.0 ∙ ap (letters_from 1) (sym (codes t day e));
    arcs = listed t day e;
    cost = sum ∙ ap (sum_n (step_cost g)) e ∙ cost_steps g t 1;
  }
