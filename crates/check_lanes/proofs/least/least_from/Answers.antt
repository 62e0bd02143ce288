use Rattle.std.proofs.Common.{◌≤ℤ◌, arith, rules, SFits, subst, w64}
use Rattle.std.proofs.lemmas.Int.{ints, to_z-of_z}
use Rattle.check_lanes.proofs.LeastSumLemmas.{sum_kept, sum_taken}
use Rattle.check_lanes.proofs.least.least_from.Goals as goal
use Rattle.check_lanes.proofs.least.least_from.Goals.{then-sum-best, else-sum-best}

pub loop-place-preserved : goal.loop-place-preserved
loop-place-preserved c =
    let x = c.args.x.now in
    let y = c.args.y.now in
    let n = c.loop-place.place in
    let best = c.loop-place.best in
    let found = c.loop-place.invariant.found in
    let sum = c.sum_of-sum.result in
    let fit : SFits w64 sum = search rules in
    let old_fit : SFits w64 best.sum = search rules in
    record {
      within = omega arith;
      found = elim c.if-sum-best.branch [
        | then-sum-best w ↦
            (let a = simp to_z-of_z at w.if-sum-best.true in
            rw (w.best-is, to_z-of_z w64 sum fit)
            (sum_taken x y n best.sum best.place found sum c.sum_of-sum.ensures (omega (arith, ints))))
        | else-sum-best w ↦
            (let a = simp to_z-of_z at w.if-sum-best.false in
            let le : best.sum ≤ℤ sum = omega (arith, ints) in
            rw w.best-is
            (sum_kept x y n best.sum best.place found (subst (λ z. best.sum ≤ℤ z) c.sum_of-sum.ensures le)))
      ];
    }
