-- The nodes of a sound certificate have a price for each cell.
use Rattle.std.proofs.Common.{List, [], ◌∷◌, ◌++◌, Some, None, subst}
use Rattle.std.specs.Prelude.{All}
use Rattle.model_rosters.specs.declared.instance.Cut.{Cut}
use Rattle.model_rosters.specs.declared.instance.Instance.{Instance}
use Rattle.model_rosters.specs.Cuts.{base_cuts}
use Rattle.model_rosters.specs.Folds.{Each}
use Rattle.model_rosters.proofs.EachLemmas.{each_all, Each-append, each_parts}
use Rattle.check_certificates.specs.declared.cert.Cert.{Cert}
use Rattle.check_certificates.specs.declared.cert.Node.{Node}
use Rattle.check_certificates.specs.declared.cert.Node.TheVariants.{Split, Priced, Pinned, Bare}
use Rattle.check_certificates.specs.Nodes.{Proof, split, priced, pinned, bare, preorder, low_cut, high_cut, visits}
use Rattle.check_certificates.specs.Sound.{IsSoundNode, IsSoundVisit, IsSoundCert}
use Rattle.text_certificates.specs.Written.{HasPrices}

has_prices : (i : Instance) (cuts : List Cut) (x : Node) → IsSoundNode i cuts x → HasPrices i x
has_prices i cuts (Split a b None) s = tt
has_prices i cuts (Split a b (Some p)) s = s.2.cells
has_prices i cuts (Priced p) s = s.cells
has_prices i cuts Pinned s = tt
has_prices i cuts Bare s = tt

tree_prices : (i : Instance) (cuts : List Cut) (t : Proof) → Each (IsSoundVisit i) (visits cuts t) → Each (HasPrices i) (preorder t)
tree_prices i cuts (split a b own low high) s =
    let parts = each_parts (IsSoundVisit i) (visits (cuts ++ low_cut a b ∷ []) low) (visits (cuts ++ high_cut a b ∷ []) high) s.1 in
    (has_prices i cuts (Split a b own) s.0, Each-append (HasPrices i) (preorder low) (preorder high) (tree_prices i (cuts ++ low_cut a b ∷ []) low parts.0) (tree_prices i (cuts ++ high_cut a b ∷ []) high parts.1))
tree_prices i cuts (priced p) s = (has_prices i cuts (Priced p) s.0, tt)
tree_prices i cuts pinned s = (tt, tt)
tree_prices i cuts bare s = (tt, tt)

pub all_prices : (i : Instance) (c : Cert) → IsSoundCert i c → All (HasPrices i) c.nodes
all_prices i c s =
    subst (All (HasPrices i)) s.nodes.whole (each_all (HasPrices i) (preorder s.proof) (tree_prices i (base_cuts i) s.proof s.nodes.each))
