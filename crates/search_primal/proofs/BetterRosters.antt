-- Best rosters after two steps.
use Rattle.std.proofs.Common.{Option, arith}
use Rattle.model_rosters.specs.declared.instance.Instance.{Instance}
use Rattle.search_candidates.specs.declared.roster.Roster.{Roster}
use Rattle.search_candidates.specs.Offers.{IsBetter}

pub better-more : (i : Instance) (a b c : Option Roster) → IsBetter i a b → IsBetter i b c → IsBetter i a c
better-more i a b c h k = let f = h.falls in let l = k.falls in record { falls = omega (arith, f, l); good = k.good; start = λ s. k.start (h.start s) }
