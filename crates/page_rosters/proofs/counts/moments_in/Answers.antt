use Rattle.page_rosters.specs.MomentLines.{moment_at, moment_behind}
use Rattle.page_rosters.proofs.PlaceLemmas.{lines_more}
use Rattle.page_rosters.proofs.counts.moments_in.Goals as goal

pub loop-place-preserved : goal.loop-place-preserved
loop-place-preserved c =
    lines_more (moment_behind c.args.clock c.args.stretches.now) c.loop-place.place (moment_at c.args.clock c.args.stretches.now 0) c.loop-place.lines c.add_moment-in-loop-place.new.lines c.loop-place.invariant c.in_ok-add_moment-2.ensures
