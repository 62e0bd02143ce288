-- What tells a grammar with the added name from one without.
use Rattle.std.specs.Prelude.{ℕ, ◌≡◌, ◌<◌, ◌≤◌, ◌+◌, ◌-◌, Some, All, List, length, take, drop, slice_get}
use Rattle.model_rosters.specs.declared.grammar.Grammar.{Grammar}
use Rattle.model_rosters.specs.declared.grammar.Rule.{Rule}
use Rattle.model_rosters.specs.declared.grammar.Sym.{Sym}
use Rattle.model_rosters.specs.declared.grammar.Sym.TheVariants.{Code, Name}
use Rattle.model_rosters.specs.declared.instance.Group.{Group}
use Rattle.model_rosters.specs.Extension.{group_rule}
use Rattle.model_rosters.specs.declared.instance.Instance.{Instance}
use Rattle.model_rosters.specs.Folds.{sum_n}
use Rattle.model_rosters.specs.Names.{added_name}
use Rattle.model_rosters.specs.SoundInstance.{AreGroups}

-- the added name is the last one and the start
pub record EndsWithAdded (g : Grammar) : Type 0 where
  pub start : g.start + 1 ≡ length g.names
  pub added : slice_get g.names g.start ≡ Some added_name

-- the symbol is no name from this one on
abbrev pub IsSymbolBelow : ℕ → Sym → Type 0
IsSymbolBelow names (Code c) = Unit {0}
IsSymbolBelow names (Name x) = x < names

-- the rule has no name from this one on
pub record IsRuleBelow (names : ℕ) (rule : Rule) : Type 0 where
  pub left : rule.left < names
  pub right : All (IsSymbolBelow names) rule.right

-- each rule is that of the group at its place
abbrev pub LeadToGroups : ℕ → List Rule → List Group → Type 0
LeadToGroups added rules groups =
    (k : ℕ) (rule : Rule) (group : Group) → slice_get rules k ≡ Some rule → slice_get groups k ≡ Some group
    → rule ≡ group_rule added group

-- the last rules are those of the groups, and at most 64 rules without the start stand before
pub record HasGroupRules (g : Grammar) (groups : List Group) : Type 0 where
  pub enough : length groups ≤ length g.rules
  pub few : length g.rules - length groups ≤ 64
  pub own : All (IsRuleBelow g.start) (take (length g.rules - length groups) g.rules)
  pub added : LeadToGroups g.start (drop (length g.rules - length groups) g.rules) groups

-- an instance whose sound grammar is the extension of one
pub record HasGroupParts (i : Instance) : Type 0 where
  pub ends : EndsWithAdded i.grammar
  pub groups : AreGroups i.grammar.start i.groups
  pub least : i.heads_min ≡ sum_n (λ (group : Group). group.heads_min) i.groups
  pub most : i.heads_max ≡ sum_n (λ (group : Group). group.heads_max) i.groups
  pub rules : HasGroupRules i.grammar i.groups
