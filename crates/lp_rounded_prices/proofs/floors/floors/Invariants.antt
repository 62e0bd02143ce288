use Rattle.std.proofs.Common.{◌≡◌, ◌^◌, All, take}
use Rattle.model_rosters.specs.Sums.{Within}
use Rattle.law_bounds.specs.master_laws.Rounding.{AreFloors}
use Rattle.lp_rounded_prices.proofs.floors.floors.Given as goal

abbrev pub invariant-loop-number : goal.invariant-loop-number
invariant-loop-number l =
    (l.tally ≡ l.fn.tally) × AreFloors l.kappa l.d (take l.number-index l.numbers) l.floors × All (Within (2 ^ 80)) l.floors
