use Rattle.std.proofs.Common.{◌-◌}
use Rattle.model_rosters.specs.ArcEntries.{IsSearched}
use Rattle.model_rosters.proofs.arc_prices.place_of.Given as goal

abbrev pub invariant-loop-low : goal.invariant-loop-low
invariant-loop-low l = IsSearched l.entries l.arc l.low l.high

abbrev pub decreases-loop-low : goal.decreases-loop-low
decreases-loop-low l = l.high - l.low
