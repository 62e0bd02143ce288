-- What a tally counts of a node's end.
use Rattle.std.specs.Prelude.{◌≡◌}
use Rattle.lp_fractions.specs.Range.{Counts, refused, overspent}
use Rattle.search_masters.specs.declared.ends.Cause.TheVariants.{Rows, Wide, Spent}
use Rattle.search_masters.specs.declared.ends.NodeEnd.{NodeEnd}
use Rattle.search_masters.specs.declared.ends.NodeEnd.TheVariants.{Best, Near, Failed, Stopped}

-- a master that was given up for a number too wide, or for want of pivots, is counted, and no other
abbrev pub IsCounted : NodeEnd → Counts → Counts → Type 0
IsCounted (Best prices value weights) old new = new ≡ old
IsCounted (Near prices weights) old new = new ≡ old
IsCounted (Failed (Rows count)) old new = new ≡ old
IsCounted (Failed (Wide fault)) old new = new ≡ refused old
IsCounted (Failed (Spent pivots)) old new = new ≡ overspent old
IsCounted (Stopped own) old new = new ≡ old
