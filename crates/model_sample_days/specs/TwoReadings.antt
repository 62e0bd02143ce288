-- A day of two periods whose one word has two trees, of different cost.
use Rattle.std.specs.Prelude.{pos, ◌≡◌, [], ◌∷◌, Some, true, codes}
use Rattle.model_rosters.specs.declared.grammar.Grammar.{Grammar}
use Rattle.model_rosters.specs.declared.grammar.Sym.TheVariants.{Code, Name}
use Rattle.model_rosters.specs.Trees.{Parts, done, letter, uses, steps, IsDayTree}
use Rattle.model_rosters.specs.Arcs.{cost, rule_cost}
use Rattle.model_rosters.specs.Sums.{PriceView, IsLeast, tree_sum}
use Rattle.model_rosters.specs.Shifts.{IsPrice, IsWordTree}
use Rattle.model_sample_days.specs.RestAndWork.{plain, step}

-- the names S and T
abbrev pub two_readings : Grammar
two_readings = record {
  periods = 2;
  codes = record { byte = 97; work = true } ∷ [];
  names = codes "S" ∷ codes "T" ∷ [];
  rules = plain 0 5 (Code 0 ∷ Code 0 ∷ []) ∷ plain 0 3 (Name 1 ∷ Name 1 ∷ []) ∷ plain 1 0 (Code 0 ∷ []) ∷ [];
  start = 0;
}

-- S = 'a' 'a'
abbrev pub dear_tree : Parts
dear_tree = uses 1 2 (letter 0 (letter 0 done)) done

-- S = T T
abbrev pub cheap_tree : Parts
cheap_tree = uses 2 2 (uses 3 1 (letter 0 done) (uses 3 1 (letter 0 done) done)) done

-- both trees derive `aa`, one for 5 and one for 3, which is its price
pub record PriceOfTwoReadings : Type 0 where
  pub dear : IsWordTree two_readings 0 (codes "aa") dear_tree
  pub dear_cost : cost two_readings dear_tree ≡ 5
  pub cheap : IsWordTree two_readings 0 (codes "aa") cheap_tree
  pub cheap_steps : steps 1 cheap_tree ≡ step 2 1 2 ∷ step 3 1 1 ∷ step 3 2 1 ∷ []
  pub price : IsPrice two_readings 0 (codes "aa") 3

-- letters and arcs for nothing, rules at their costs
abbrev pub cost_prices : PriceView
cost_prices = record {
  letter_at = λ c i. Some (pos 0);
  arc_of = λ a. pos 0;
  rule_of = λ r. pos (rule_cost two_readings r);
}

-- the least sum of the day's trees at the rules' costs
abbrev pub LeastSumOfTwoReadings : Type 0
LeastSumOfTwoReadings = IsLeast (IsDayTree two_readings) (tree_sum cost_prices 1) (Some (pos 3))
