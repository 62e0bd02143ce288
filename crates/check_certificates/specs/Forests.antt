-- Nodes in preorder as a walk meets them that knows how many cuts are above each tree that is due.
use Rattle.std.specs.Prelude.{ℕ, zero, suc, ◌≡◌, ◌+◌, Bool, false, cond, Option, None, Some, List, [], ◌∷◌, length, slice_index_or}
use Rattle.model_rosters.specs.declared.instance.Cut.{Cut}
use Rattle.model_rosters.specs.declared.instance.Instance.{Instance}
use Rattle.check_certificates.specs.declared.cert.Node.{Node}
use Rattle.check_certificates.specs.declared.cert.Node.TheVariants.{Split, Priced, Pinned, Bare}
use Rattle.check_certificates.specs.Sound.{IsSoundNode}

-- the node is sound below so many cuts
abbrev pub IsSoundBelow : Instance → ℕ → Node → Type 0
IsSoundBelow i n node = (path : List Cut) → length path ≡ n → IsSoundNode i path node

-- the numbers of cuts above the trees that are due behind a node with n cuts above it: its two
-- halves, where it is a split, and those that were due
abbrev pub due_after : ℕ → Node → List ℕ → List ℕ
due_after n (Split a b own) ns = (n + 1) ∷ (n + 1) ∷ ns
due_after n (Priced p) ns = ns
due_after n Pinned ns = ns
due_after n Bare ns = ns

-- the nodes are trees of sound nodes, one for each number, with so many cuts above it
abbrev pub IsForest : Instance → List ℕ → List Node → Type 0
IsForest i [] [] = Unit {0}
IsForest i [] (node ∷ nodes) = ⊥
IsForest i (n ∷ ns) [] = ⊥
IsForest i (n ∷ ns) (node ∷ nodes) = IsSoundBelow i n node × IsForest i (due_after n node ns) nodes

-- the High halves that are due, innermost first, where the first of these splits are open below so
-- many cuts, each in its High half where it is told by true
abbrev pub due_high : ℕ → List Bool → ℕ → List ℕ
due_high cuts halves zero = []
due_high cuts halves (suc n) =
    cond (slice_index_or halves n false) (due_high cuts halves n) ((cuts + suc n) ∷ due_high cuts halves n)

-- the tree that comes next, and those High halves; none where nothing is due
abbrev pub due : ℕ → List Bool → Option ℕ → List ℕ
due cuts halves None = []
due cuts halves (Some n) = (cuts + n) ∷ due_high cuts halves n
