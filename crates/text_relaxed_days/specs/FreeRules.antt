-- Rules that cost nothing.
use Rattle.std.specs.Prelude.{map}
use Rattle.model_rosters.specs.declared.grammar.Grammar.{Grammar}
use Rattle.model_rosters.specs.declared.grammar.Rule.{Rule}

abbrev pub free_rule : Rule → Rule
free_rule r = record r { cost = 0 }

-- the same shifts, each at the price 0
abbrev pub free_rules : Grammar → Grammar
free_rules g = record g { rules = map free_rule g.rules }
