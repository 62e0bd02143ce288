use Rattle.std.proofs.Common.{arith}
use Rattle.check_parts.proofs.pinned_part.Paths.{hi_most}
use Rattle.check_parts.proofs.pinned_part.bounds.high.Goals as goal

pub loop-cut-init : goal.loop-cut-init
loop-cut-init c = let h = hi_most c.args.most c.args.cuts.now c.args.arc.now in record { value = grind (arith, h); within = omega arith }
