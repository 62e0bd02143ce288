use Rattle.std.proofs.Common.{arith}
use Rattle.tree_span_cells.proofs.PeriodsLemmas.{lowest, lowest-half}
use Rattle.tree_span_cells.proofs.periods.lowest_bit.Goals as goal

pub returns-then-low-ne0 : goal.returns-then-low-ne0
returns-then-low-ne0 c =
    let low = lowest-half c.args.bits c.low_half-low.result c.low_half-low.ensures (omega arith) in
    record { fits = omega (arith, low.0); there = low.1; first = low.2 }

pub returns-else-low-ne0 : goal.returns-else-low-ne0
returns-else-low-ne0 c =
    let low = lowest c.args.bits c.requires c.ranges.bits.fits in
    record { fits = low.0; there = low.1; first = low.2 }
