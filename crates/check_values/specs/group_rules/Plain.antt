-- The grammar of the rules of a day.
use Rattle.std.specs.Prelude.{ℕ, ◌-◌, List, [], ◌∷◌, length, take}
use Rattle.model_rosters.specs.declared.grammar.Grammar.{Grammar}
use Rattle.model_rosters.specs.declared.instance.Group.{Group}

-- how many names groups add to the grammar of the rules
abbrev pub added_names : List Group → ℕ
added_names [] = 0
added_names (g ∷ gs) = 1

-- a day's grammar without what its groups add, from a name
abbrev pub plain_from : Grammar → List Group → ℕ → Grammar
plain_from g groups start = record {
  periods = g.periods;
  codes = g.codes;
  names = take (length g.names - added_names groups) g.names;
  rules = take (length g.rules - length groups) g.rules;
  start = start;
}
