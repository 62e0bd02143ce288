-- What a step makes of the seats.
use Rattle.std.specs.Prelude.{ℕ, ◌≡◌, Some, None, List, [], ◌∷◌, ◌++◌, length, slice_set}
use Rattle.model_rosters.specs.declared.grammar.ArcKey.{ArcKey}
use Rattle.model_rosters.specs.declared.instance.Cut.{Cut}
use Rattle.check_certificates.specs.declared.cert.Node.{Node}
use Rattle.check_certificates.specs.declared.cert.Node.TheVariants.{Split, Priced, Pinned, Bare}
use Rattle.check_certificates.specs.Nodes.{low_cut, high_cut}
use Rattle.check_certificates.specs.declared.growing_laws.seat.Seat.{Seat}
use Rattle.check_certificates.specs.growing_laws.Seats.{seat_at}
use Rattle.search_open_nodes.specs.declared.leaf.OpenLeaf.{OpenLeaf}

-- a split in place of a leaf, with the prices that the leaf has
abbrev pub split_of : Node → ArcKey → ℕ → Node
split_of (Split c d own) a b = Split a b None
split_of (Priced p) a b = Split a b (Some p)
split_of Pinned a b = Split a b None
split_of Bare a b = Split a b None

-- the seat of a half that is not processed
abbrev pub half_seat : ℕ → ℕ → Cut → Seat
half_seat parent above cut = record {
  node = Bare;
  value = 0;
  low = 0;
  above = above;
  parent = parent;
  cut = cut;
}

-- the seat of a leaf that is split
abbrev pub split_seat : Seat → ArcKey → ℕ → ℕ → Seat
split_seat s a b low = record {
  node = split_of s.node a b;
  value = s.value;
  low = low;
  above = s.above;
  parent = s.parent;
  cut = s.cut;
}

-- the seats once leaf k is split
abbrev pub forked : List Seat → ℕ → ℕ → ArcKey → ℕ → List Seat
forked seats k above a b =
    slice_set seats k (split_seat (seat_at seats k) a b (length seats))
    ++ half_seat k above (low_cut a b) ∷ half_seat k above (high_cut a b) ∷ []

-- the seat of a leaf that shows something
abbrev pub marked_seat : Seat → Node → ℕ → Seat
marked_seat s node value = record {
  node = node;
  value = value;
  low = s.low;
  above = s.above;
  parent = s.parent;
  cut = s.cut;
}

-- the seats once leaf k shows a value
abbrev pub marked : List Seat → ℕ → Node → ℕ → List Seat
marked seats k node value = slice_set seats k (marked_seat (seat_at seats k) node value)

-- a half of a leaf that waits or is in hand
abbrev pub IsHalfOf : OpenLeaf → ℕ → OpenLeaf → Type 0
IsHalfOf leaf seat half =
    (half.bound ≡ leaf.bound) × (half.kept.seat ≡ seat) × (half.kept.plan ≡ None)
