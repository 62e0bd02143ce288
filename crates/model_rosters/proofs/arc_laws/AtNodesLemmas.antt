-- Where what an arc makes begins.
use Rattle.std.proofs.Common.{◌≡◌, ℕ, zero, suc, refl}
use Rattle.model_rosters.specs.declared.grammar.Grammar.{Grammar}
use Rattle.model_rosters.specs.arc_laws.OrNodes.{made_by}
use Rattle.model_rosters.specs.arc_laws.AtNodes.{start_of}

pub made_start : (g : Grammar) (r k i l : ℕ) → start_of (made_by g r k i l) ≡ i
made_start g r zero i l = refl
made_start g r (suc k) i l = refl
