-- Two splits, of nodes with prices and on a day of two groups: what they show, and their paths.
use Rattle.std.specs.Prelude.{ℕ, ◌≡◌, max, min, None, Some, List, [], ◌∷◌, ◌++◌}
use Rattle.model_rosters.specs.declared.grammar.ArcKey.{ArcKey}
use Rattle.model_rosters.specs.declared.instance.Cut.{Cut}
use Rattle.model_rosters.specs.declared.instance.Instance.{Instance}
use Rattle.model_rosters.specs.declared.instance.Prices.{Prices}
use Rattle.model_rosters.specs.declared.instance.Side.TheVariants.{Low, High}
use Rattle.model_rosters.specs.Cuts.{base_cuts, group_arc}
use Rattle.model_rosters.specs.GreatestCost.{greatest_cost}
use Rattle.law_bounds.specs.Priced.{IsPricedValue}
use Rattle.law_bounds.specs.WorkedGroups.{day}
use Rattle.check_certificates.specs.declared.cert.Node.TheVariants.{Split, Pinned, Bare}
use Rattle.check_certificates.specs.Nodes.{Proof, split, priced, pinned, bare, visits}
use Rattle.check_certificates.specs.certificate_laws.Accepted.{bound_number}
use Rattle.check_certificates.specs.certificate_laws.Causes.{stated_bound}
use Rattle.check_certificates.specs.certificate_laws.Shown.{Shows}

-- the two arcs of the rules that add the groups
abbrev first : ArcKey
first = group_arc 2 6

abbrev second : ArcKey
second = group_arc 2 7

-- the base cuts of the day: at most one employee of the first group, and one or two of the second
abbrev base : List Cut
base = record { arc = first; side = Low; b = 1 } ∷ record { arc = second; side = Low; b = 2 } ∷ record
    { arc = second; side = High; b = 0 } ∷ []

-- a split of the first group's arc whose High half is split at the second's
abbrev tree : Proof
tree = split first 0 None bare (split second 1 None pinned bare)

abbrev above : List Cut
above = base ++ record { arc = first; side = High; b = 0 } ∷ []

pub record WorkedNodes : Type 0 where
  -- a split without prices shows the lesser of its halves
  pub halves : (i : Instance) (cuts : List Cut) (a : ArcKey) (b x y : ℕ) (p q : Prices)
      → IsPricedValue i p (cuts ++ record { arc = a; side = Low; b = b } ∷ []) x
      → IsPricedValue i q (cuts ++ record { arc = a; side = High; b = b } ∷ []) y
      → Shows i cuts (split a b None (priced p) (priced q)) (min x y)
  -- one with prices shows what they show at its own cuts, where that is greater
  pub own : (i : Instance) (cuts : List Cut) (a : ArcKey) (b x y z : ℕ) (p q r : Prices)
      → IsPricedValue i p (cuts ++ record { arc = a; side = Low; b = b } ∷ []) x
      → IsPricedValue i q (cuts ++ record { arc = a; side = High; b = b } ∷ []) y → IsPricedValue i r cuts z
      → Shows i cuts (split a b (Some r) (priced p) (priced q)) (max z (min x y))
  -- each path begins with the base cuts, and each split adds one cut to it
  pub paths : visits (base_cuts day) tree
      ≡ record { path = base; node = Split first 0 None } ∷ record
      { path = base ++ record { arc = first; side = Low; b = 0 } ∷ []; node = Bare }
      ∷ record { path = above; node = Split second 1 None } ∷ record
      { path = above ++ record { arc = second; side = Low; b = 1 } ∷ []; node = Pinned }
      ∷ record { path = above ++ record { arc = second; side = High; b = 1 } ∷ []; node = Bare } ∷ []
  -- no roster costs more than 138, and 139 is stated as none
  pub greatest : greatest_cost day ≡ 138
  pub none : bound_number day None ≡ 139
  pub stated_none : stated_bound day 139 ≡ None
  pub stated_some : stated_bound day 138 ≡ Some 138
