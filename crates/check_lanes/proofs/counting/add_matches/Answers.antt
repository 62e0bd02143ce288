use Rattle.std.proofs.Common.{arith}
use Rattle.check_lanes.proofs.Lanes.{all_counted}
use Rattle.check_lanes.proofs.counting.add_matches.Goals as goal

pub returns-clause-counts : goal.returns-clause-counts
returns-clause-counts c =
    all_counted c.args.counts.now c.args.word.now c.args.byte c.loop-place.place c.loop-place.counts c.requires.lengths c.loop-place.invariant
    (omega (arith, c.loop-place.invariant.long))
