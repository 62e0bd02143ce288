use Rattle.std.proofs.Common.{◌≤◌, ◌+◌, ◌-◌, ◌≡◌, Some, length}
use Rattle.std.specs.Prelude.{OnSome}
use Rattle.model_rosters.specs.declared.grammar.Rule.{Rule}
use Rattle.model_rosters.specs.Grammar.{rule_at}
use Rattle.model_rosters.specs.Sums.{IsLeast, tree_sum}
use Rattle.model_rosters.proofs.tree_laws.RuleLoop.{ByFirst}
use Rattle.tree_span_cells.specs.Choices.{ChosenRule}
use Rattle.tree_span_cells.proofs.names.least_rule.Given as goal

abbrev pub invariant-loop-number : goal.invariant-loop-number
invariant-loop-number g l = record {
  low : 1 ≤ l.number;
  high : l.number ≤ length l.grammar.rules + 1;
  there : (rule : Rule) → rule_at l.grammar l.number ≡ Some rule → rule.left ≡ l.name;
  least : IsLeast (ByFirst l.grammar (g.P.LetterPrice.view l.prices) l.name l.span.start l.span.len l.number) (tree_sum (g.P.LetterPrice.view l.prices) l.span.start) l.best.sum;
  chosen : OnSome l.best.sum (ChosenRule l.grammar (g.P.LetterPrice.view l.prices) l.name l.span.start l.span.len l.best.number l.best.sum);
}

abbrev pub decreases-loop-number : goal.decreases-loop-number
decreases-loop-number g l = length l.grammar.rules + 1 - l.number
