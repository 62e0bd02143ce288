use Rattle.std.proofs.Common.{◌≡◌, pos, get_or, arith, refl, subst, w64}
use Rattle.std.proofs.lemmas.Int.{to_z-of_z}
use Rattle.check_lanes.proofs.RunningLemmas.{IsBestLane, numbers_again, sum_fits, best_first, best_kept, best_taken, best_all}
use Rattle.check_lanes.proofs.least.least_lane.Goals as goal
use Rattle.check_lanes.proofs.least.least_lane.Goals.{then-is_ahead, else-is_ahead}

pub loop-lane-init : goal.loop-lane-init
loop-lane-init c =
    let sums = c.args.running.sums in
    let starts = c.args.running.starts in
    let fit = sum_fits _ (c.requires.running.small 0 (omega arith)) in
    let again = numbers_again sums 0 (omega (arith, c.requires.running.sum_lanes)) fit in
    record {
      lane = omega arith;
      best = rw (again, to_z-of_z w64 (get_or sums 0 (pos 0)) fit) (best_first c.args.x.now c.args.y.now c.args.at sums starts c.requires.running);
    }

pub loop-lane-preserved : goal.loop-lane-preserved
loop-lane-preserved c =
    let x = c.args.x.now in
    let y = c.args.y.now in
    let n = c.args.at in
    let sums = c.args.running.sums in
    let starts = c.args.running.starts in
    let lane = c.loop-lane.lane in
    let best = c.loop-lane.best in
    let here = c.loop-lane.invariant.best in
    let fit = sum_fits _ (c.requires.running.small lane (omega arith)) in
    let fit_best = sum_fits best.sum here.small in
    let again = numbers_again sums lane (omega (arith, c.requires.running.sum_lanes)) fit in
    record {
      lane = omega arith;
      best = elim c.if-is_ahead.branch [
        | then-is_ahead w ↦
            (let a = simp (again, to_z-of_z) at (w.if-is_ahead.ensures.yes refl) in
            rw (w.best-is, again, to_z-of_z w64 (get_or sums lane (pos 0)) fit) (best_taken x y n sums starts c.requires.running lane (omega arith) best.sum best.place here a))
        | else-is_ahead w ↦
            (let a = simp (again, to_z-of_z) at (w.if-is_ahead.ensures.no refl) in
            rw w.best-is (best_kept x y n sums starts c.requires.running lane (omega arith) best.sum best.place here a))
      ];
    }

pub returns : goal.returns
returns c =
    let x = c.args.x.now in
    let y = c.args.y.now in
    let sums = c.args.running.sums in
    let starts = c.args.running.starts in
    let best = c.loop-lane.best in
    let whole : c.loop-lane.lane ≡ 8 = omega arith in
    best_all x y c.args.at sums starts c.requires.running best.sum best.place
    (subst (λ k. IsBestLane x y c.args.at sums starts k best.sum best.place) whole c.loop-lane.invariant.best)
