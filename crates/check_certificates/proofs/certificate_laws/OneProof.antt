-- Nodes in preorder are those of one tree, and a tree shows one value.
use Rattle.std.proofs.Common.{◌≡◌, max, min, ℕ, Option, None, Some, List, [], ◌∷◌, ◌++◌, append-nil, sym, ap, ◌∙◌}
use Rattle.model_rosters.specs.declared.instance.Cut.{Cut}
use Rattle.model_rosters.specs.declared.instance.Instance.{Instance}
use Rattle.model_rosters.specs.declared.instance.Prices.{Prices}
use Rattle.law_bounds.proofs.OneValue.{one-priced, one-pinned}
use Rattle.check_certificates.specs.declared.cert.Node.{Node}
use Rattle.check_certificates.specs.Nodes.{Proof, split, priced, pinned, bare, preorder, low_cut, high_cut}
use Rattle.check_certificates.proofs.OneTree.{same_start}
use Rattle.check_certificates.specs.certificate_laws.Shown.{Shows, IsSplitValue}

-- two trees of the same nodes are one
pub same-proof : (p q : Proof) (nodes : List Node) → preorder p ≡ nodes → preorder q ≡ nodes → p ≡ q
same-proof p q nodes h k = (same_start p q [] [] (append-nil (preorder p) ∙ h ∙ sym k ∙ sym (append-nil (preorder q)))).0

-- a split shows one value
one-split : (i : Instance) (cuts : List Cut) (own : Option Prices) (x y v w : ℕ) → x ≡ y → IsSplitValue i cuts own x v → IsSplitValue i cuts own y w → v ≡ w
one-split i cuts None x y v w e h k = h ∙ e ∙ sym k
one-split i cuts (Some p) x y v w e h k =
    let o = one-priced i p cuts h.0 k.0 h.1 k.1 in
    h.2 ∙ ap (λ (n : ℕ). max n x) o ∙ ap (λ (n : ℕ). max k.0 n) e ∙ sym k.2

pub one-shown : (i : Instance) (cuts : List Cut) (t : Proof) (v w : ℕ) → Shows i cuts t v → Shows i cuts t w → v ≡ w
one-shown i cuts bare v w h k = h ∙ sym k
one-shown i cuts pinned v w h k = one-pinned i cuts v w h k
one-shown i cuts (priced p) v w h k = one-priced i p cuts v w h k
one-shown i cuts (split a b own low high) v w h k =
    let x = one-shown i (cuts ++ low_cut a b ∷ []) low h.0 k.0 h.2 k.2 in
    let y = one-shown i (cuts ++ high_cut a b ∷ []) high h.1 k.1 h.3 k.3 in
    one-split i cuts own (min h.0 h.1) (min k.0 k.1) v w (ap (λ (n : ℕ). min n h.1) x ∙ ap (λ (n : ℕ). min k.0 n) y) h.4 k.4
