-- Days whose head counts or a cell alone show that no roster is allowed, and prices of 0.
use Rattle.std.specs.Prelude.{ℤ, pos, ◌≡◌, Option, List, [], All, length}
use Rattle.model_rosters.specs.declared.instance.Instance.{Instance}
use Rattle.model_rosters.specs.declared.instance.Prices.{Prices}
use Rattle.model_rosters.specs.Agreement.{Agree}
use Rattle.model_rosters.specs.Reduced.{reduced_view}
use Rattle.model_rosters.specs.PriceRooms.{price_view}
use Rattle.model_rosters.specs.declared.price_room.PriceRoom.{PriceRoom}
use Rattle.check_certificates.specs.declared.cert.Node.{Node}
use Rattle.check_certificates.specs.declared.cert.Node.TheVariants.{Split, Priced, Pinned, Bare}
use Rattle.model_rosters.specs.declared.instance.Cut.{Cut}
use Rattle.law_bounds.specs.Lagrangian.{IsLeastReduced}
use Rattle.search_branch_price.specs.Found.{HasNoArc}

-- a price of 0 for each cell, at the denominator 1, and no multiplier
pub record ArePlain (i : Instance) (p : Prices) : Type 0 where
  pub one : p.d ≡ 1
  pub each : length p.cell ≡ length i.cells
  pub zero : All (λ (z : ℤ). z ≡ pos 0) p.cell
  pub none : p.mult ≡ []

-- the room holds such prices
abbrev pub HoldsPlain : Instance → PriceRoom → Type 0
HoldsPlain i room = (p : Prices) × ArePlain i p × Agree i.grammar (price_view room) (reduced_view i p [])

-- the least reduced cost of a tree at such prices, whatever the cuts are
abbrev pub IsPlainLeast : Instance → Option ℤ → Type 0
IsPlainLeast i z = (p : Prices) (cuts : List Cut) → ArePlain i p → IsLeastReduced i p cuts z

-- a node with prices of 0 at which a least reduced cost is known, where there is some arc, or where there
-- is none one that says that each arc has one count
abbrev pub IsInfeasibleNode : Instance → Node → Type 0
IsInfeasibleNode i (Split a b own) = ⊥
IsInfeasibleNode i (Priced p) = ArePlain i p × ((z : Option ℤ) × IsPlainLeast i z) × (HasNoArc i → ⊥)
IsInfeasibleNode i Pinned = HasNoArc i
IsInfeasibleNode i Bare = ⊥
