-- One tree of the day for each employee's day.
use Rattle.std.specs.Prelude.{ℕ, ◌≡◌, ◌≢◌, ◌+◌, ◌-◌, List, [], ◌∷◌, length}
use Rattle.model_rosters.specs.declared.instance.Instance.{Instance}
use Rattle.model_rosters.specs.Trees.{Parts, IsDayTree, word}
use Rattle.model_rosters.specs.Duties.{Duty}
use Rattle.model_rosters.specs.tree_laws.Parts.{root}

-- how many rules come before those that groups add
abbrev pub own_rules : Instance → ℕ
own_rules i = length i.grammar.rules - length i.groups

-- a tree of the day that spells the word, and with groups by the rule that the employee's group adds
pub record IsDutyTree (i : Instance) (d : Duty) (t : Parts) : Type 0 where
  pub day : IsDayTree i.grammar t
  pub spelled : word i.grammar t ≡ d.word
  pub led : i.groups ≢ [] → root t ≡ own_rules i + d.team

-- one for each, in order
abbrev pub AreDutyTrees : Instance → List Duty → List Parts → Type 0
AreDutyTrees i [] [] = Unit {0}
AreDutyTrees i (d ∷ ds) (t ∷ ts) = IsDutyTree i d t × AreDutyTrees i ds ts
AreDutyTrees i [] (t ∷ ts) = ⊥
AreDutyTrees i (d ∷ ds) [] = ⊥
