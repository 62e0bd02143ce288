-- Nodes in preorder stand for one tree.
use Rattle.std.proofs.Common.{◌≡◌, List, ◌++◌, append_assoc, sym, refl, ◌∙◌}
use Rattle.check_certificates.specs.declared.cert.Node.{Node}
use Rattle.check_certificates.specs.Nodes.{Proof, split, priced, pinned, bare, preorder}

-- what begins with the nodes of p and with those of q begins with one tree
pub same_start : (p q : Proof) (xs ys : List Node) → preorder p ++ xs ≡ preorder q ++ ys → (p ≡ q) × (xs ≡ ys)
same_start bare bare xs ys e = (refl, cc)
same_start bare pinned xs ys e = cc
same_start bare (priced r) xs ys e = cc
same_start bare (split a b o l h) xs ys e = cc
same_start pinned bare xs ys e = cc
same_start pinned pinned xs ys e = (refl, cc)
same_start pinned (priced r) xs ys e = cc
same_start pinned (split a b o l h) xs ys e = cc
same_start (priced p) bare xs ys e = cc
same_start (priced p) pinned xs ys e = cc
same_start (priced p) (priced r) xs ys e = (cc, cc)
same_start (priced p) (split a b o l h) xs ys e = cc
same_start (split a b o l h) bare xs ys e = cc
same_start (split a b o l h) pinned xs ys e = cc
same_start (split a b o l h) (priced r) xs ys e = cc
same_start (split a b o l h) (split a' b' o' l' h') xs ys e =
    let e1 : a ≡ a' = cc in
    let e2 : b ≡ b' = cc in
    let e3 : o ≡ o' = cc in
    let e4 : (preorder l ++ preorder h) ++ xs ≡ (preorder l' ++ preorder h') ++ ys = cc in
    let e5 = sym (append_assoc (preorder l) (preorder h) xs) ∙ e4 ∙ append_assoc (preorder l') (preorder h') ys in
    let low = same_start l l' (preorder h ++ xs) (preorder h' ++ ys) e5 in
    let high = same_start h h' xs ys low.1 in
    let e6 = low.0 in
    let e7 = high.0 in
    (cc, high.1)
