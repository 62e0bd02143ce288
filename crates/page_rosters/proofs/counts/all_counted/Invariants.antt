use Rattle.std.proofs.Common.{◌≡◌, take}
use Rattle.std.specs.List.{flat_map}
use Rattle.page_rosters.specs.MomentLines.{counted}
use Rattle.page_rosters.proofs.counts.all_counted.Given as goal

abbrev pub invariant-loop-shift : goal.invariant-loop-shift
invariant-loop-shift l = l.stretches ≡ flat_map (counted l.codes l.off) (take l.shift-index l.shifts)
