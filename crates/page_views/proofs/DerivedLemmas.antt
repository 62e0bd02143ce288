-- The rules of a group.
use Rattle.std.proofs.Common.{◌≡◌, ℕ, ap}
use Rattle.model_rosters.specs.declared.grammar.Grammar.{Grammar}
use Rattle.model_rosters.specs.declared.instance.Instance.{Instance}
use Rattle.check_values.specs.group_rules.Plain.{plain_from}
use Rattle.page_views.specs.Rows.{rules_of, start_of}

-- the grammar with the start of a group has the rules of the group
pub with_start : (i : Instance) (group : ℕ) (g : Grammar) → g ≡ plain_from i.grammar i.groups g.start → record g { start = start_of i group } ≡ rules_of i group
with_start i group g e = ap (λ (q : Grammar). record q { start = start_of i group }) e
