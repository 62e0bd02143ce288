use Rattle.std.proofs.Common.{◌≤◌, ◌^◌, arith, pos, SFits, rules, length, unsigned_abs, slice_index_or, below_more, ◌∙◌}
use Rattle.std.specs.Int.{w64}
use Rattle.std.proofs.lemmas.Int.{to_z-of_z, ints}
use Rattle.lp_tableaus.proofs.Starts.{pushed_line, narrow_at}
use Rattle.lp_tableaus.proofs.first.fill_rows.Goals as goal

pub loop-row-preserved : goal.loop-row-preserved
loop-row-preserved c =
    let f : SFits w64 (slice_index_or c.args.right.now c.loop-row.row (pos 0)) = search rules in
    let ok = simp to_z-of_z at c.in_default.ensures.ok in
    let here : unsigned_abs (slice_index_or c.args.right.now c.loop-row.row (pos 0)) ≤ 2 ^ 56 = omega (arith, ints, ok) in
    let line = simp to_z-of_z at c.in-Ok.ensures in
    record {
      lines = rw c.in-Ok-push.ensures (pushed_line (length c.args.right.now) c.loop-row.row c.args.right.now c.loop-row.rows c.in-Ok.line line c.loop-row.invariant.lines);
      narrow = below_more _ _ c.loop-row.invariant.narrow here;
      tally = c.in_default.ensures.counted ∙ c.loop-row.invariant.tally;
    }

pub returns-clause-right : goal.returns-clause-right
returns-clause-right c = narrow_at c.args.right.now (λ r h. c.loop-row.invariant.narrow r (omega arith))
