use Rattle.std.proofs.Common.{◌≡◌, ◌∙◌, arith}
use Rattle.std.proofs.lemmas.Int.{ints, clamps}
use mir.Val.{to_z, of_z}
use mir.Syntax.{w128}
use Rattle.law_bounds.specs.Lagrangian.{cell_at}
use Rattle.check_parts.proofs.priced_part.LeastCounts.{least-more}
use Rattle.check_parts.proofs.priced_part.shares.cell_share.Goals as goal

pub loop-further-preserved : goal.loop-further-preserved
loop-further-preserved c =
    let i = c.loop-further.invariant in
    let w = c.cell_at.ensures.within in
    let here : to_z w128 (of_z w128 c.cell_at.result) ≡ c.cell_at.result = omega (arith, ints, w.low, w.high) in
    let both = c.min-least.ensures.value in
    let same : to_z w128 (of_z w128 c.min-least.result) ≡ c.min-least.result = omega (arith, ints, clamps, both, here, i.within.low, i.within.high, w.low, w.high) in
    record {
      value = same ∙ least-more (cell_at c.args.d (record { cell = c.args.cell.now; price = to_z w128 (of_z w128 c.args.price) })) c.args.cell.now.floor c.loop-further.further _ _ _ both i.value (here ∙ c.cell_at.ensures.value);
      within = record {
        low = omega (arith, ints, clamps, same, both, here, i.within.low, i.within.high, w.low, w.high);
        high = omega (arith, ints, clamps, same, both, here, i.within.low, i.within.high, w.low, w.high);
      };
    }
