use Rattle.std.proofs.Common.{IfSome}
use Rattle.lp_tableaus.specs.Cheaper.{IsCheaper}
use Rattle.lp_tableaus.proofs.choice.steepest.Given as goal

abbrev pub invariant-loop-column : goal.invariant-loop-column
invariant-loop-column g l = IfSome l.best (λ b. IsCheaper {K = g.C.Columns.Key} (g.C.Columns.program (g.C.Columns.site l.columns)) (g.C.Columns.Lists (g.C.Columns.state l.columns)) (g.C.Columns.size (g.C.Columns.state l.columns)) l.prices b.column)
