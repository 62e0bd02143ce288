-- Rules from their parts.
use Rattle.std.specs.Prelude.{ℕ, unwrap_or}
use Rattle.model_rosters.specs.declared.grammar.Rule.{Rule}
use Rattle.model_made_days.specs.declared.parts.RuleParts.{RuleParts}
use Rattle.model_made_days.specs.Made.{rule}

-- the rule that is made of parts, where a cost that they leave out is c
abbrev pub rule_of : ℕ → RuleParts → Rule
rule_of c p = rule p.left (unwrap_or p.cost c) p.right.now p.lengths p.begins
