-- The grammar of a day with groups of employees.
use Rattle.std.specs.Prelude.{ℕ, List, [], ◌∷◌, ◌++◌, length, map}
use Rattle.model_rosters.specs.declared.grammar.Grammar.{Grammar}
use Rattle.model_rosters.specs.declared.grammar.Rule.{Rule}
use Rattle.model_rosters.specs.declared.grammar.Sym.TheVariants.{Name}
use Rattle.model_rosters.specs.declared.grammar.Window.{Window}
use Rattle.model_rosters.specs.declared.instance.Group.{Group}
use Rattle.model_rosters.specs.Names.{added_name}

-- a window that contains each length and each period of any day
abbrev pub any_window : Window
any_window = record { lo = 1; hi = 96 }

-- the rule that leads from the added name to a group's name, at no cost and on any span
abbrev pub group_rule : ℕ → Group → Rule
group_rule added group = record {
  left = added;
  cost = 0;
  right = Name group.name ∷ [];
  span = any_window;
  first = any_window;
  last = any_window;
}

-- The grammar with the added name last, which is the start, and a rule for each group in order
-- after its rules. The start that the grammar had is lost.
abbrev pub extended : Grammar → List Group → Grammar
extended g groups = record {
  periods = g.periods;
  codes = g.codes;
  names = g.names ++ added_name ∷ [];
  rules = g.rules ++ map (group_rule (length g.names)) groups;
  start = length g.names;
}
