-- Sample days from their parts.
use Rattle.std.specs.Borrow.{Bor}
use Rattle.std.specs.Prelude.{ℕ, List, [], ◌∷◌, map, true, false}
use Rattle.model_rosters.specs.declared.grammar.CodeDef.{CodeDef}
use Rattle.model_rosters.specs.declared.grammar.Grammar.{Grammar}
use Rattle.model_rosters.specs.declared.grammar.Rule.{Rule}
use Rattle.model_rosters.specs.declared.grammar.Sym.{Sym}
use Rattle.model_rosters.specs.declared.grammar.Window.{Window}
use Rattle.model_rosters.specs.declared.instance.Instance.{Instance}
use Rattle.model_sample_days.specs.declared.parts.DayParts.{DayParts}

abbrev pub any : Window
any = record { lo = 1; hi = 96 }

-- `a` is work, and `.` is rest
abbrev pub two_codes : List CodeDef
two_codes = (record { byte = 97; work = true }) ∷ (record { byte = 46; work = false }) ∷ []

-- a rule from its left side, cost, right side and lengths
abbrev pub rule_of : ℕ × ℕ × Bor (List Sym) × Window → Rule
rule_of p = record { left = p.0; cost = p.1; right = p.2.now; span = p.3; first = any; last = any }

abbrev pub grammar_of : ℕ → List (List ℕ) → List Rule → ℕ → Grammar
grammar_of periods names rules start =
    record { periods = periods; codes = two_codes; names = names; rules = rules; start = start }

abbrev pub day_of : DayParts → Instance
day_of p = record {
  grammar = grammar_of p.periods (map (λ n. n.now) p.names.now) (map rule_of p.rules.now) p.start;
  heads_min = p.heads.0;
  heads_max = p.heads.1;
  groups = p.groups.now;
  cells = p.cells.now;
}
