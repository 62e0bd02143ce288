use Rattle.std.proofs.Common.{◌≡◌, ℕ, ◌<◌, ◌≤◌, List, ◌++◌, length}
use Rattle.std.specs.Prelude.{slice_index}
use Rattle.lp_tableaus.specs.declared.simplex.Basic.{Basic}
use Rattle.lp_tableaus.specs.Finish.{AreShares}
use Rattle.lp_tableaus.proofs.finish.basics.Given as goal

abbrev pub invariant-rows : goal.invariant-rows
invariant-rows g l = record {
  inside : l.row ≤ length l.rows;
  shares : (keys : ℕ → g.C.Columns.Key) → ((r : ℕ) → r < length l.rows → g.C.Columns.Lists (g.C.Columns.state l.columns) (slice_index l.basis r) (keys r)) → (bs : List Basic) → AreShares (length l.rows) l.rows (λ r. ((g.C.Columns.program (g.C.Columns.site l.columns)).column (keys r)).entry) l.basis bs l.row
      → AreShares (length l.rows) l.rows (λ r. ((g.C.Columns.program (g.C.Columns.site l.columns)).column (keys r)).entry) l.basis (l.basic ++ bs) (length l.rows);
  tally : l.tally ≡ l.fn.tally;
}

abbrev pub decreases-rows : goal.decreases-rows
decreases-rows g l = l.row
