-- Kinds of nodes that reports count.
use Rattle.std.specs.Prelude.{Bool, true, false, None, Some}
use Rattle.check_certificates.specs.declared.cert.Node.{Node}
use Rattle.check_certificates.specs.declared.cert.Node.TheVariants.{Split, Priced, Pinned, Bare}

-- a split, or a leaf that shows something
abbrev pub is_processed : Node → Bool
is_processed (Split a b own) = true
is_processed (Priced p) = true
is_processed Pinned = true
is_processed Bare = false

-- a split without prices
abbrev pub is_unpriced : Node → Bool
is_unpriced (Split a b None) = true
is_unpriced (Split a b (Some p)) = false
is_unpriced (Priced p) = false
is_unpriced Pinned = false
is_unpriced Bare = false
