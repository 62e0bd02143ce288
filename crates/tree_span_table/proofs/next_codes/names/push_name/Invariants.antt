use Rattle.std.proofs.Common.{◌≤◌, ◌+◌, ◌-◌, ◌≡◌, Some, length}
use Rattle.model_rosters.specs.declared.grammar.Rule.{Rule}
use Rattle.model_rosters.specs.Grammar.{rule_at}
use Rattle.tree_span_cells.specs.Cells.{name_slot, place}
use Rattle.tree_span_table.specs.next_codes.Totals.{AreLowered, AreThrough}
use Rattle.tree_span_table.specs.next_codes.Pushes.{NameDone}
use Rattle.tree_span_table.proofs.next_codes.names.push_name.Given as goal

abbrev pub invariant-loop-number : goal.invariant-loop-number
invariant-loop-number g l = record {
  low : 1 ≤ l.number;
  high : l.number ≤ length l.grammar.rules + 1;
  there : (rule : Rule) → rule_at l.grammar l.number ≡ Some rule → rule.left ≡ l.name;
  done : NameDone l.grammar (g.P.LetterPrice.view l.prices) l.layout l.totals l.name l.span.start l.span.len l.outside l.number;
  lowered : AreLowered (place l.layout (name_slot l.layout l.name) l.span.start l.span.len) l.fn.totals l.totals;
  through : AreThrough l.grammar (g.P.LetterPrice.view l.prices) l.layout l.totals;
}

abbrev pub decreases-loop-number : goal.decreases-loop-number
decreases-loop-number g l = length l.grammar.rules + 1 - l.number
