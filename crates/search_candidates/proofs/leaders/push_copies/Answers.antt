use Rattle.search_candidates.proofs.LeaderColumns.{copies-next}
use Rattle.search_candidates.proofs.leaders.push_copies.Goals as goal

pub loop-preserved : goal.loop-preserved
loop-preserved c = copies-next c.args.columns.now c.loop.columns c.push.new.self c.loop.counter c.args.column c.loop.invariant c.in_ok-push.ensures.ok
