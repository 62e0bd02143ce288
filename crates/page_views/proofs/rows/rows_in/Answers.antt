use Rattle.std.proofs.Common.{arith}
use Rattle.page_views.specs.Rows.{rows_at}
use Rattle.page_views.proofs.RowLemmas.{rows_more}
use Rattle.page_views.proofs.rows.rows_in.Goals as goal

pub loop-place-preserved : goal.loop-place-preserved
loop-place-preserved c = record {
  rows = rows_more (rows_at c.args.instance.now c.args.labels.now c.args.comparison.now c.args.shifts.now) c.args.places.now c.loop-place.place-index c.loop-place.rows c.add_row.new.rows c.loop-place-test.true c.loop-place.invariant.rows
      c.in_ok-add_row.ensures.rows;
  few = omega (arith, c.in_ok-add_row.ensures.few, c.loop-place.invariant.few);
}
