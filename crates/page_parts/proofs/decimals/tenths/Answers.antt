use Rattle.page_parts.proofs.UnitLemmas.{tenths_more}
use Rattle.page_parts.proofs.decimals.tenths.Goals as goal

pub loop-done-preserved : goal.loop-done-preserved
loop-done-preserved c = tenths_more c.loop-done._done c.args.value c.loop-done.rest c.loop-done.invariant
