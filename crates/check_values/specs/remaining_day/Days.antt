-- The grammar of a day with other groups.
use Rattle.std.specs.Prelude.{List}
use Rattle.model_rosters.specs.declared.grammar.Grammar.{Grammar}
use Rattle.model_rosters.specs.declared.instance.Group.{Group}
use Rattle.model_rosters.specs.declared.instance.Instance.{Instance}
use Rattle.text_demand.specs.InstanceOf.{day_grammar}
use Rattle.check_values.specs.group_rules.Plain.{plain_from}

-- the grammar of the day's rules
abbrev pub rules_of : Instance → Grammar
rules_of i = plain_from i.grammar i.groups i.grammar.start

-- the grammar of the day with these groups in place of its own
abbrev pub regrouped : Instance → List Group → Grammar
regrouped i groups = day_grammar (rules_of i) groups
