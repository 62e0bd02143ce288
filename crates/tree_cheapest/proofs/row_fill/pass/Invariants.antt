use Rattle.tree_cheapest.specs.Passes.{AreRowsPassed}
use Rattle.tree_cheapest.proofs.row_fill.pass.Given as goal

abbrev pub invariant-loop-place : goal.invariant-loop-place
invariant-loop-place g l = record {
  passed : AreRowsPassed g.N.Number.limits.sum (g.P.LetterPrice.view l.prices) l.graph l.letters l.order l.sums l.best l.place;
}
