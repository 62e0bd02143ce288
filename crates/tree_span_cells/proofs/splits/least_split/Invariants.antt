use Rattle.std.proofs.Common.{◌≤◌, ◌+◌, ◌-◌, drop, get_or}
use Rattle.std.specs.Prelude.{OnSome}
use Rattle.model_rosters.specs.declared.grammar.Sym.TheVariants.{Code}
use Rattle.model_rosters.specs.Sums.{IsLeast, parts_sum}
use Rattle.model_rosters.proofs.tree_laws.PartLoop.{Before}
use Rattle.tree_span_cells.specs.Choices.{ChosenPart}
use Rattle.tree_span_cells.specs.Numbers.{sum_below}
use Rattle.tree_span_cells.proofs.splits.least_split.Given as goal

abbrev pub invariant-loop-point : goal.invariant-loop-point
invariant-loop-point g l = record {
  low : l.span.start + 1 ≤ l.point;
  high : l.point ≤ l.end;
  least : IsLeast (Before l.grammar (g.P.LetterPrice.view l.prices) l.suffix.rule l.suffix.from l.span.start l.span.len (drop l.suffix.from l.rule.right) (l.point - l.span.start))
      (parts_sum (g.P.LetterPrice.view l.prices) l.suffix.rule l.suffix.from l.span.start) (sum_below l.best.number);
  chosen : OnSome (sum_below l.best.number) (ChosenPart l.grammar (g.P.LetterPrice.view l.prices) l.suffix.rule l.suffix.from (get_or l.rule.right l.suffix.from (Code 0)) l.rule.right l.span.start l.span.len l.best.part (sum_below l.best.number));
}

abbrev pub decreases-loop-point : goal.decreases-loop-point
decreases-loop-point g l = l.end - l.point
