use Rattle.page_text.specs.RosterChart.{tick}
use Rattle.page_parts.proofs.ElementsLemmas.{more_places}
use Rattle.page_text.proofs.roster_chart.all_ticks.Goals as goal

pub loop-place-preserved : goal.loop-place-preserved
loop-place-preserved c = more_places (tick c.args.sheet c.args.top c.args.moments.now) c.loop-place.place c.args.out.now c.loop-place.out c.tick.new.out c.loop-place.invariant c.in_ok-tick.ensures
