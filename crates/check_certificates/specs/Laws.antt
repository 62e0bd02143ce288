-- The laws of certificates' trees that the crates above cite.
use Rattle.std.specs.Prelude.{◌≡◌, List, ◌++◌}
use Rattle.check_certificates.specs.declared.cert.Node.{Node}
use Rattle.check_certificates.specs.Nodes.{Proof, preorder}

-- a list of nodes begins with the preorder of at most one tree
abbrev pub OneTree : Type 0
OneTree = (p q : Proof) (xs ys : List Node) → preorder p ++ xs ≡ preorder q ++ ys → (p ≡ q) × (xs ≡ ys)
