use Rattle.std.proofs.Common.{◌≡◌, take}
use Rattle.lp_rounded_prices.specs.Floors.{AreMultsOf}
use Rattle.lp_rounded_prices.proofs.floors.multipliers.Given as goal

abbrev pub invariant-loop-index : goal.invariant-loop-index
invariant-loop-index l = (l.tally ≡ l.fn.tally) × AreMultsOf l.kappa l.d (take l.index l.cuts) (take l.index l.numbers) l.mults
