use Rattle.std.proofs.Common.{◌+◌, ap}
use Rattle.page_text.specs.RosterChart.{row_elements}
use Rattle.page_parts.proofs.ElementsLemmas.{more_from}
use Rattle.page_text.proofs.roster_chart.rows.Goals as goal

pub loop-shift-preserved : goal.loop-shift-preserved
loop-shift-preserved c = record {
  out = more_from (row_elements c.args.money.now c.args.sheet c.args.codes.now c.args.off) c.args.rows.now c.loop-shift.shift-index c.loop-shift.place c.shift-item.result c.args.out.now c.loop-shift.out c.row.new.out
      c.loop-shift-test.true c.loop-shift.invariant.place c.loop-shift.invariant.out (rw c.shift-item.is at c.in_ok-row.ensures);
  place = ap (λ n. n + 1) c.loop-shift.invariant.place;
}
