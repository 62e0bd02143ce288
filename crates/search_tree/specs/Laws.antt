-- The laws of a search's tree that its steps rest on.
use Rattle.std.specs.Prelude.{ℕ, ◌≡◌, ◌≤◌, ◌<◌, ◌+◌, ◌*◌, None, List, [], ◌∷◌, length}
use Rattle.model_rosters.specs.declared.instance.Cut.{Cut}
use Rattle.model_rosters.specs.Cuts.{base_cuts}
use Rattle.check_certificates.specs.growing_laws.Grown.{Grown, fresh, busy}
use Rattle.check_certificates.specs.growing_laws.Seats.{StandsAt}
use Rattle.search_open_nodes.specs.declared.leaf.OpenLeaf.{OpenLeaf}
use Rattle.search_tree.specs.Views.{TreeView, Site, IsPlace}
use Rattle.search_tree.specs.Trees.{last_count, IsTree}

-- the limit may fall
abbrev pub LimitFalls : Type 0
LimitFalls = (s : Site) (limit less now low : ℕ) (hand : List OpenLeaf) (w : TreeView) (t : Grown)
    → IsTree s limit now low hand w t → less ≤ limit → IsTree s less now low hand w t

-- the master's count may rise
abbrev pub CountRises : Type 0
CountRises = (s : Site) (limit now later low : ℕ) (hand : List OpenLeaf) (w : TreeView) (t : Grown)
    → IsTree s limit now low hand w t → now ≤ later → later ≤ last_count → IsTree s limit later low hand w t

-- a leaf in hand without a plan, whose bound is below the limit, is not processed
abbrev pub LeafInHand : Type 0
LeafInHand = (s : Site) (limit now low : ℕ) (leaf : OpenLeaf) (w : TreeView) (t : Grown)
    → IsTree s limit now low (leaf ∷ []) w t → leaf.bound < limit → leaf.kept.plan ≡ None
    → (path : List Cut) × IsPlace (base_cuts s.day) t leaf.kept.seat leaf.bound path fresh

-- there are at most twice as many nodes as processed ones, and one more
abbrev pub FewSeats : Type 0
FewSeats = (s : Site) (limit now low : ℕ) (hand : List OpenLeaf) (w : TreeView) (t : Grown)
    → IsTree s limit now low hand w t → length w.seats ≤ 2 * w.processed + 1

-- a path has at most as many cuts behind the base cuts as there are processed nodes
abbrev pub ShortPaths : Type 0
ShortPaths = (cuts : List Cut) (t : Grown) (n : ℕ) (path : List Cut) → StandsAt cuts t n path
    → length path ≤ length cuts + busy t
