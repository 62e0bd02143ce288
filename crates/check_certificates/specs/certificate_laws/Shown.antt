-- What the tree of nodes shows: a lower bound on the cost of the rosters that meet its cuts.
use Rattle.std.specs.Prelude.{ℕ, ◌≡◌, max, min, Option, None, Some, List, [], ◌∷◌, ◌++◌}
use Rattle.model_rosters.specs.declared.instance.Cut.{Cut}
use Rattle.model_rosters.specs.declared.instance.Instance.{Instance}
use Rattle.model_rosters.specs.declared.instance.Prices.{Prices}
use Rattle.law_bounds.specs.Pinned.{IsPinnedValue}
use Rattle.law_bounds.specs.Priced.{IsPricedValue}
use Rattle.check_certificates.specs.Nodes.{Proof, split, priced, pinned, bare, low_cut, high_cut}

-- a split shows the lesser of its halves, or what its own prices show where that is greater
abbrev pub IsSplitValue : Instance → List Cut → Option Prices → ℕ → ℕ → Type 0
IsSplitValue i cuts None lesser v = v ≡ lesser
IsSplitValue i cuts (Some p) lesser v = (own : ℕ) × IsPricedValue i p cuts own × (v ≡ max own lesser)

-- below these cuts the tree shows v
abbrev pub Shows : Instance → List Cut → Proof → ℕ → Type 0
Shows i cuts (split a b own low high) v =
    (x : ℕ) × (y : ℕ) × Shows i (cuts ++ low_cut a b ∷ []) low x × Shows i (cuts ++ high_cut a b ∷ []) high y
    × IsSplitValue i cuts own (min x y) v
Shows i cuts (priced p) v = IsPricedValue i p cuts v
Shows i cuts pinned v = IsPinnedValue i cuts v
Shows i cuts bare v = v ≡ 0

-- the lesser value of the halves of a split, raised to its own value where it has one
abbrev pub joined : Option ℕ → ℕ → ℕ
joined None lesser = lesser
joined (Some own) lesser = max own lesser
