-- The tree of a certificate's nodes, its preorder, and the path of cuts to each node.
use Rattle.std.specs.Prelude.{ℕ, Option, List, [], ◌∷◌, ◌++◌}
use Rattle.model_rosters.specs.declared.grammar.ArcKey.{ArcKey}
use Rattle.model_rosters.specs.declared.instance.Cut.{Cut}
use Rattle.model_rosters.specs.declared.instance.Side.TheVariants.{Low, High}
use Rattle.model_rosters.specs.declared.instance.Prices.{Prices}
use Rattle.check_certificates.specs.declared.cert.Node.{Node}
use Rattle.check_certificates.specs.declared.cert.Node.TheVariants.{Split, Priced, Pinned, Bare}

-- a split with its Low half and its High half, or a leaf
pub data Proof : Type 0 where
  split : ArcKey → ℕ → Option Prices → Proof → Proof → Proof
  priced : Prices → Proof
  pinned : Proof
  bare : Proof

-- the nodes in preorder, the Low half before the High half
abbrev pub preorder : Proof → List Node
preorder (split a b own low high) = Split a b own ∷ preorder low ++ preorder high
preorder (priced p) = Priced p ∷ []
preorder pinned = Pinned ∷ []
preorder bare = Bare ∷ []

abbrev pub low_cut : ArcKey → ℕ → Cut
low_cut a b = record { arc = a; side = Low; b = b }

abbrev pub high_cut : ArcKey → ℕ → Cut
high_cut a b = record { arc = a; side = High; b = b }

-- a node with the cuts on the path to it
pub record Visit : Type 0 where
  pub path : List Cut
  pub node : Node

-- the nodes in preorder, each with its path; the first cuts of each path are given
abbrev pub visits : List Cut → Proof → List Visit
visits cuts (split a b own low high) =
    record { path = cuts; node = Split a b own } ∷ visits (cuts ++ low_cut a b ∷ []) low
    ++ visits (cuts ++ high_cut a b ∷ []) high
visits cuts (priced p) = record { path = cuts; node = Priced p } ∷ []
visits cuts pinned = record { path = cuts; node = Pinned } ∷ []
visits cuts bare = record { path = cuts; node = Bare } ∷ []
