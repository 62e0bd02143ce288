use Rattle.std.proofs.Common.{◌≤◌, ◌<◌, ◌+◌, ◌-◌, ◌≡◌, ℕ, Some, length}
use Rattle.model_rosters.specs.declared.grammar.Rule.{Rule}
use Rattle.model_rosters.specs.Grammar.{rule_at}
use Rattle.tree_span_cells.specs.Cells.{place, name_slot}
use Rattle.tree_span_arcs.specs.Marks.{Adds, RuleClosed}
use Rattle.tree_span_arcs.proofs.marks.mark_rules.Given as goal

abbrev pub invariant-loop-number : goal.invariant-loop-number
invariant-loop-number l = record {
  low : 1 ≤ l.number;
  high : l.number ≤ length l.grammar.rules + 1;
  there : (rule : Rule) → rule_at l.grammar l.number ≡ Some rule → rule.left ≡ l.name;
  adds : Adds l.grammar l.layout (place l.layout (name_slot l.layout l.name) l.span.start l.span.len) l.fn.marks l.marks;
  closed : (r : ℕ) → r < l.number → RuleClosed l.grammar l.layout l.marks l.name l.span.start l.span.len r;
}

abbrev pub decreases-loop-number : goal.decreases-loop-number
decreases-loop-number l = length l.grammar.rules + 1 - l.number
