-- The tree of a search while it grows: each leaf has a number, and what prices or counts show.
use Rattle.std.specs.Prelude.{ℕ, ◌≡◌, ◌≤◌, ◌+◌, ◌⊎◌, max, min, cond, nat_eq, Option, None, Some, List, [], ◌∷◌, ◌++◌}
use Rattle.model_rosters.specs.declared.grammar.ArcKey.{ArcKey}
use Rattle.model_rosters.specs.declared.instance.Cut.{Cut}
use Rattle.model_rosters.specs.declared.instance.Instance.{Instance}
use Rattle.model_rosters.specs.declared.instance.Prices.{Prices}
use Rattle.check_certificates.specs.Nodes as nodes
use Rattle.check_certificates.specs.Nodes.{Proof, low_cut, high_cut}
use Rattle.law_bounds.specs.Pinned.{IsPinnedValue}
use Rattle.law_bounds.specs.Priced.{IsPricedValue}
use Rattle.check_certificates.specs.certificate_laws.Shown.{joined}

-- prices and what they show
pub record Own : Type 0 where
  pub prices : Prices
  pub value : ℕ

-- a leaf that is not processed, one with prices, or one whose cuts leave each arc one count, with what it
-- shows
pub data Leaf : Type 0 where
  fresh : Leaf
  valued : Own → Leaf
  fixed : ℕ → Leaf

-- a leaf with its number, or a split with its own, where it has prices with them
pub data Grown : Type 0 where
  tip : ℕ → Leaf → Grown
  fork : ℕ → ArcKey → ℕ → Option Own → Grown → Grown → Grown

abbrev pub prices_of : Option Own → Option Prices
prices_of None = None
prices_of (Some o) = Some o.prices

abbrev pub value_of : Option Own → Option ℕ
value_of None = None
value_of (Some o) = Some o.value

abbrev pub leaf_proof : Leaf → Proof
leaf_proof fresh = nodes.bare
leaf_proof (valued o) = nodes.priced o.prices
leaf_proof (fixed v) = nodes.pinned

-- the tree of the certificate
abbrev pub proof_of : Grown → Proof
proof_of (tip k l) = leaf_proof l
proof_of (fork k a b own low high) = nodes.split a b (prices_of own) (proof_of low) (proof_of high)

abbrev pub leaf_value : Leaf → ℕ
leaf_value fresh = 0
leaf_value (valued o) = o.value
leaf_value (fixed v) = v

-- what the tree shows
abbrev pub shown : Grown → ℕ
shown (tip k l) = leaf_value l
shown (fork k a b own low high) = joined (value_of own) (min (shown low) (shown high))

-- the greatest value that prices show on the way down
abbrev pub raised : ℕ → Option Own → ℕ
raised above None = above
raised above (Some o) = max above o.value

-- P of each leaf: what prices above it show, its path, its number and the leaf
abbrev pub OnTips : (ℕ → List Cut → ℕ → Leaf → Type 0) → ℕ → List Cut → Grown → Type 0
OnTips P above cuts (tip k l) = P above cuts k l
OnTips P above cuts (fork k a b own low high) =
    OnTips P (raised above own) (cuts ++ low_cut a b ∷ []) low
    × OnTips P (raised above own) (cuts ++ high_cut a b ∷ []) high

-- P of some leaf
abbrev pub SomeTip : (ℕ → List Cut → ℕ → Leaf → Type 0) → ℕ → List Cut → Grown → Type 0
SomeTip P above cuts (tip k l) = P above cuts k l
SomeTip P above cuts (fork k a b own low high) =
    SomeTip P (raised above own) (cuts ++ low_cut a b ∷ []) low
    ⊎ SomeTip P (raised above own) (cuts ++ high_cut a b ∷ []) high

-- P of each split: its path, its arc and number, and its own prices
abbrev pub OnForks : (List Cut → ArcKey → ℕ → Option Own → Type 0) → List Cut → Grown → Type 0
OnForks P cuts (tip k l) = Unit {0}
OnForks P cuts (fork k a b own low high) =
    P cuts a b own × OnForks P (cuts ++ low_cut a b ∷ []) low × OnForks P (cuts ++ high_cut a b ∷ []) high

-- the values of a leaf and of a split are right
abbrev pub IsRightLeaf : Instance → List Cut → Leaf → Type 0
IsRightLeaf i cuts fresh = Unit {0}
IsRightLeaf i cuts (valued o) = IsPricedValue i o.prices cuts o.value
IsRightLeaf i cuts (fixed v) = IsPinnedValue i cuts v

abbrev pub IsRightOwn : Instance → List Cut → Option Own → Type 0
IsRightOwn i cuts None = Unit {0}
IsRightOwn i cuts (Some o) = IsPricedValue i o.prices cuts o.value

-- what a leaf leaves as a bound on what is below it
abbrev pub tip_bound : ℕ → Leaf → ℕ
tip_bound above l = max above (leaf_value l)

-- v is the least bound that a leaf leaves
pub record IsLeastBound (above : ℕ) (cuts : List Cut) (t : Grown) (v : ℕ) : Type 0 where
  pub each : OnTips (λ up path k l. v ≤ tip_bound up l) above cuts t
  pub attained : SomeTip (λ up path k l. tip_bound up l ≡ v) above cuts t

-- the tree with another one in place of the leaf of this number
abbrev pub put : ℕ → Grown → Grown → Grown
put n new (tip k l) = cond (nat_eq k n) new (tip k l)
put n new (fork k a b own low high) = fork k a b own (put n new low) (put n new high)

-- how many leaves have the number
abbrev pub times : ℕ → Grown → ℕ
times n (tip k l) = cond (nat_eq k n) 1 0
times n (fork k a b own low high) = times n low + times n high

-- the numbers in preorder
abbrev pub numbers : Grown → List ℕ
numbers (tip k l) = k ∷ []
numbers (fork k a b own low high) = k ∷ numbers low ++ numbers high

-- how many nodes are processed
abbrev pub leaf_busy : Leaf → ℕ
leaf_busy fresh = 0
leaf_busy (valued o) = 1
leaf_busy (fixed v) = 1

abbrev pub busy : Grown → ℕ
busy (tip k l) = leaf_busy l
busy (fork k a b own low high) = 1 + busy low + busy high

-- and how many splits have no prices
abbrev pub unpriced : Option Own → ℕ
unpriced None = 1
unpriced (Some o) = 0

abbrev pub missed : Grown → ℕ
missed (tip k l) = 0
missed (fork k a b own low high) = unpriced own + missed low + missed high
