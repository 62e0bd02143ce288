-- The tree of a search in an array: a seat for each node.
use Rattle.std.specs.Prelude.{ℕ, ◌≡◌, ◌≢◌, ◌<◌, ◌≤◌, ◌+◌, ◌*◌, ◌⊎◌, cond, nat_eq, Option, List, [], ◌∷◌, ◌++◌, length, slice_index_or}
use Rattle.model_rosters.specs.declared.grammar.ArcKey.{ArcKey}
use Rattle.model_rosters.specs.declared.instance.Cut.{Cut}
use Rattle.model_rosters.specs.Folds.{count, In, Each}
use Rattle.model_rosters.specs.declared.instance.Side.TheVariants.{Low}
use Rattle.check_certificates.specs.declared.cert.Node.{Node}
use Rattle.check_certificates.specs.declared.cert.Node.TheVariants.{Split, Priced, Pinned, Bare}
use Rattle.check_certificates.specs.declared.growing_laws.seat.Seat.{Seat}
use Rattle.check_certificates.specs.Nodes.{low_cut, high_cut, preorder}
use Rattle.check_certificates.specs.growing_laws.Grown.{Grown, tip, fork, Leaf, fresh, valued, fixed, Own, prices_of, leaf_value, raised, numbers, put, times, proof_of}

abbrev pub leaf_node : Leaf → Node
leaf_node fresh = Bare
leaf_node (valued o) = Priced o.prices
leaf_node (fixed v) = Pinned

abbrev pub number : Grown → ℕ
number (tip k l) = k
number (fork k a b own low high) = k

-- the seat is that of the leaf
pub record IsLeafSeat (s : Seat) (up : ℕ) (l : Leaf) : Type 0 where
  pub node : s.node ≡ leaf_node l
  pub value : s.value ≡ leaf_value l
  pub above : s.above ≡ up

-- the seat is that of the split, and its halves' seats lead back to it
pub record IsForkSeat (seats : ℕ → Seat) (k : ℕ) (a : ArcKey) (b : ℕ) (own : Option Own)
    (x y : ℕ) : Type 0 where
  pub node : (seats k).node ≡ Split a b (prices_of own)
  pub first : (seats k).low ≡ x
  pub second : y ≡ x + 1
  pub low_parent : (seats x).parent ≡ k
  pub high_parent : (seats y).parent ≡ k
  pub low_half : (seats x).cut ≡ low_cut a b
  pub high_half : (seats y).cut ≡ high_cut a b

-- the seats are those of the tree
abbrev pub AreSeated : (ℕ → Seat) → ℕ → Grown → Type 0
AreSeated seats above (tip k l) = IsLeafSeat (seats k) above l
AreSeated seats above (fork k a b own low high) =
    IsForkSeat seats k a b own (number low) (number high)
    × AreSeated seats (raised above own) low × AreSeated seats (raised above own) high

-- no split has the number
abbrev pub IsUnsplit : ℕ → Grown → Type 0
IsUnsplit n (tip k l) = Unit {0}
IsUnsplit n (fork k a b own low high) = (k ≢ n) × IsUnsplit n low × IsUnsplit n high

-- links up and the cut of a seat stay, whatever else of it changes
pub record SameLinks (s r : Seat) : Type 0 where
  pub parent : s.parent ≡ r.parent
  pub cut : s.cut ≡ r.cut

-- P of each leaf of the number n: what prices above it show
abbrev pub AtLeaf : (ℕ → Type 0) → ℕ → ℕ → Grown → Type 0
AtLeaf P n above (tip k l) = k ≡ n → P above
AtLeaf P n above (fork k a b own low high) =
    AtLeaf P n (raised above own) low × AtLeaf P n (raised above own) high

-- A leaf's seat and new ones change, so the seats are those of the tree with another one in place of the
-- leaf, which keeps its number.
abbrev pub SeatedPut : Type 0
SeatedPut =
    (old seats : ℕ → Seat) (n above : ℕ) (new t : Grown)
    → number new ≡ n → IsUnsplit n t
    → ((k : ℕ) → In k (numbers t) → k ≢ n → seats k ≡ old k) → SameLinks (seats n) (old n)
    → AtLeaf (λ up. AreSeated seats up new) n above t
    → AreSeated old above t → AreSeated seats above (put n new t)

-- how often a number stands in a tree once another one stands in place of a leaf
abbrev pub PutNumbers : Type 0
PutNumbers =
    (j n : ℕ) (new t : Grown)
    → count (nat_eq j) (numbers (put n new t)) + times n t * cond (nat_eq j n) 1 0
    ≡ count (nat_eq j) (numbers t) + times n t * count (nat_eq j) (numbers new)

-- a node of the number stands below these cuts
abbrev pub StandsAt : List Cut → Grown → ℕ → List Cut → Type 0
StandsAt cuts (tip k l) j path = (k ≡ j) × (cuts ≡ path)
StandsAt cuts (fork k a b own low high) j path =
    ((k ≡ j) × (cuts ≡ path))
    ⊎ StandsAt (cuts ++ low_cut a b ∷ []) low j path ⊎ StandsAt (cuts ++ high_cut a b ∷ []) high j path

-- a node's seat leads to the split above it, and its cut is the last of its path
pub record LeadsUp (seats : ℕ → Seat) (cuts : List Cut) (t : Grown) (j : ℕ) (path : List Cut) : Type 0 where
  pub shorter : List Cut
  pub split : StandsAt cuts t (seats j).parent shorter
  pub last : path ≡ shorter ++ (seats j).cut ∷ []

-- each node but the root leads up
abbrev pub SeatsLeadUp : Type 0
SeatsLeadUp =
    (seats : ℕ → Seat) (above : ℕ) (cuts : List Cut) (t : Grown) (j : ℕ) (path : List Cut)
    → AreSeated seats above t → StandsAt cuts t j path
    → ((j ≡ number t) × (path ≡ cuts)) ⊎ LeadsUp seats cuts t j path

-- the nodes of trees, one after another
abbrev pub all_nodes : List Grown → List Node
all_nodes [] = []
all_nodes (t ∷ ts) = preorder (proof_of t) ++ all_nodes ts

abbrev pub all_numbers : List Grown → List ℕ
all_numbers [] = []
all_numbers (t ∷ ts) = numbers t ++ all_numbers ts

-- the halves of a split, the Low half first
abbrev pub halves_of : Grown → List Grown
halves_of (tip k l) = []
halves_of (fork k a b own low high) = low ∷ high ∷ []

-- a tree's nodes are that of its seat and those of its halves
pub record IsHead (seats : ℕ → Seat) (t : Grown) (rest : List Grown) : Type 0 where
  pub nodes : all_nodes (t ∷ rest) ≡ (seats (number t)).node ∷ all_nodes (halves_of t ++ rest)
  pub listed : all_numbers (t ∷ rest) ≡ number t ∷ all_numbers (halves_of t ++ rest)

abbrev pub SeatsGiveNodes : Type 0
SeatsGiveNodes =
    (seats : ℕ → Seat) (above : ℕ) (t : Grown) (rest : List Grown) → AreSeated seats above t
    → IsHead seats t rest

-- the seats by their numbers
abbrev pub seat_at : List Seat → ℕ → Seat
seat_at seats k = slice_index_or seats k (record {
  node = Bare;
  value = 0;
  low = 0;
  above = 0;
  parent = 0;
  cut = record { arc = record { rule = 0; suffix = 0; start = 0; len = 0; part = 0 }; side = Low; b = 0 };
})

-- the seats hold the tree: its numbers are those of the seats, each once
pub record HoldTree (seats : List Seat) (t : Grown) : Type 0 where
  pub seated : AreSeated (seat_at seats) 0 t
  pub root : number t ≡ 0
  pub once : (j : ℕ) → count (nat_eq j) (numbers t) ≤ 1
  pub size : length (numbers t) ≡ length seats
  pub within : Each (λ j. j < length seats) (numbers t)

-- trees whose numbers are on a stack, that of the first one last
abbrev pub AreOpen : (ℕ → Seat) → List ℕ → List Grown → Type 0
AreOpen seats stack [] = stack ≡ []
AreOpen seats stack (t ∷ ts) =
    (rest : List ℕ) × (above : ℕ) × (stack ≡ rest ++ number t ∷ []) × AreSeated seats above t
    × AreOpen seats rest ts

-- the first nodes are listed, and those of the trees on the stack follow
pub record IsListing (size : ℕ) (whole : Grown) (seats : List Seat) (stack : List ℕ)
    (listed : List Node) : Type 0 where
  pub trees : List Grown
  pub stacked : AreOpen (seat_at seats) stack trees
  pub nodes : listed ++ all_nodes trees ≡ preorder (proof_of whole)
  pub once : (j : ℕ) → count (nat_eq j) (all_numbers trees) ≤ 1
  pub left : length listed + length (all_numbers trees) ≡ size
  pub within : Each (λ j. j < size) (all_numbers trees)
  pub same : length seats ≡ size

-- the numbers of a split's halves, the Low half last
abbrev pub pushed_halves : Node → ℕ → List ℕ → List ℕ
pushed_halves (Split a b own) low stack = (stack ++ (low + 1) ∷ []) ++ low ∷ []
pushed_halves (Priced p) low stack = stack
pushed_halves Pinned low stack = stack
pushed_halves Bare low stack = stack

-- the number of a split's Low half leaves room for that of the High half
abbrev pub HasHalves : Node → ℕ → Type 0
HasHalves (Split a b own) low = low < 4294967295
HasHalves (Priced p) low = Unit {0}
HasHalves Pinned low = Unit {0}
HasHalves Bare low = Unit {0}
