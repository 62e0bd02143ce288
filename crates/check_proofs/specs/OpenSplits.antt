-- A walk over the nodes in preorder with a stack of open splits.
use Rattle.std.specs.Prelude.{ℕ, ◌≡◌, min, Option, None, Some, List, [], ◌∷◌, ◌++◌}
use Rattle.model_rosters.specs.declared.instance.Cut.{Cut}
use Rattle.model_rosters.specs.declared.instance.Instance.{Instance}
use Rattle.model_rosters.specs.declared.instance.Prices.{Prices}
use Rattle.model_rosters.specs.declared.instance.Side.TheVariants.{Low, High}
use Rattle.law_bounds.specs.Pinned.{IsPinnedValue}
use Rattle.law_bounds.specs.Priced.{IsPricedValue}
use Rattle.check_certificates.specs.declared.cert.Node.{Node}
use Rattle.check_certificates.specs.declared.cert.Node.TheVariants.{Split, Priced, Pinned, Bare}
use Rattle.check_certificates.specs.Nodes.{Proof, preorder, Visit, visits, high_cut}
use Rattle.check_proofs.specs.declared.frame.Frame.{Frame}
use Rattle.check_certificates.specs.certificate_laws.Shown.{Shows, joined}

-- the cuts on the way to the next node, where the innermost split is the first of the list
abbrev pub path : List Cut → List Frame → List Cut
path base [] = base
path base (f ∷ st) = path base st ++ f.cut ∷ []

-- where the half that was read last shows x, the nodes that follow lead to v
abbrev pub ValueAfter : Instance → List Cut → List Frame → ℕ → List Node → ℕ → Type 0
ValueAfter i base [] x rest v = (rest ≡ []) × (v ≡ x)
ValueAfter i base (f ∷ st) x rest v =
    elim f.cut.side [
      | Low ↦ (t : Proof) × (tail : List Node) × (y : ℕ) × (rest ≡ preorder t ++ tail)
          × Shows i (path base st ++ high_cut f.cut.arc f.cut.b ∷ []) t y
          × ValueAfter i base st (joined f.own (min x y)) tail v
      | High ↦ ValueAfter i base st (joined f.own (min f.low x)) rest v
    ]

-- the nodes begin with a tree for the open half, and lead to v
abbrev pub LeadsTo : Instance → List Cut → List Frame → List Node → ℕ → Type 0
LeadsTo i base st nodes v =
    (t : Proof) × (tail : List Node) × (x : ℕ) × (nodes ≡ preorder t ++ tail) × Shows i (path base st) t x
    × ValueAfter i base st x tail v

-- after the tree for the open half, the nodes that follow make these visits
abbrev pub VisitsAfter : List Cut → List Frame → List Node → List Visit → Type 0
VisitsAfter base [] rest vs = (rest ≡ []) × (vs ≡ [])
VisitsAfter base (f ∷ st) rest vs =
    elim f.cut.side [
      | Low ↦ (t : Proof) × (tail : List Node) × (us : List Visit) × (rest ≡ preorder t ++ tail)
          × (vs ≡ visits (path base st ++ high_cut f.cut.arc f.cut.b ∷ []) t ++ us)
          × VisitsAfter base st tail us
      | High ↦ VisitsAfter base st rest vs
    ]

-- the nodes begin with a tree for the open half, and make these visits
abbrev pub MakeVisits : List Cut → List Frame → List Node → List Visit → Type 0
MakeVisits base st nodes vs =
    (t : Proof) × (tail : List Node) × (us : List Visit) × (nodes ≡ preorder t ++ tail)
    × (vs ≡ visits (path base st) t ++ us) × VisitsAfter base st tail us

-- the whole tree was read and shows this, or a half is open
abbrev pub ValueNext : Instance → List Cut → Option ℕ → List Frame → List Node → ℕ → Type 0
ValueNext i base None st rest v = LeadsTo i base st rest v
ValueNext i base (Some x) st rest v = (rest ≡ []) × (v ≡ x)

abbrev pub VisitsNext : List Cut → Option ℕ → List Frame → List Node → List Visit → Type 0
VisitsNext base None st rest vs = MakeVisits base st rest vs
VisitsNext base (Some x) st rest vs = (rest ≡ []) × (vs ≡ [])

-- the node is a leaf
abbrev pub IsLeaf : Node → Type 0
IsLeaf (Split a b own) = ⊥
IsLeaf (Priced p) = Unit {0}
IsLeaf Pinned = Unit {0}
IsLeaf Bare = Unit {0}

-- the leaf shows x below these cuts
abbrev pub IsLeafValue : Instance → List Cut → Node → ℕ → Type 0
IsLeafValue i cuts (Split a b own) x = ⊥
IsLeafValue i cuts (Priced p) x = IsPricedValue i p cuts x
IsLeafValue i cuts Pinned x = IsPinnedValue i cuts x
IsLeafValue i cuts Bare x = x ≡ 0

-- what a split's own prices show, if it has any
abbrev pub IsOwnValue : Instance → List Cut → Option Prices → Option ℕ → Type 0
IsOwnValue i cuts None None = Unit {0}
IsOwnValue i cuts (Some p) (Some x) = IsPricedValue i p cuts x
IsOwnValue i cuts None (Some x) = ⊥
IsOwnValue i cuts (Some p) None = ⊥
