-- Entries of arcs in the order of arcs, and marks that tell where there are none.
use Rattle.std.specs.Prelude.{ℕ, ℤ, ◌+ℤ◌, ◌≡◌, ◌<◌, ◌≤◌, ◌+◌, ◌*◌, ◌%◌, Bool, true, false, ◌&&◌, ◌||◌, nat_lt, nat_eq, Some, List, [], ◌∷◌, All, length, slice_get, slice_index_or}
use Rattle.model_rosters.specs.declared.grammar.ArcKey.{ArcKey}
use Rattle.model_rosters.specs.declared.arc_prices.ArcPrice.{ArcPrice}
use Rattle.model_rosters.specs.Arcs.{arc_numbers}
use Rattle.model_rosters.specs.Sums.{Within}

-- the first number that differs is smaller
abbrev pub comes_first : List ℕ → List ℕ → Bool
comes_first [] ys = false
comes_first (x ∷ xs) [] = false
comes_first (x ∷ xs) (y ∷ ys) = nat_lt x y || (nat_eq x y && comes_first xs ys)

-- the order of arcs: by rule, suffix, start, length and part
abbrev pub is_before : ArcKey → ArcKey → Bool
is_before a b = comes_first (arc_numbers a) (arc_numbers b)

-- the arc of each entry comes before those of the entries that follow
pub record AreSorted (xs : List ArcPrice) : Type 0 where
  pub rising : (j k : ℕ) (d : ArcPrice) → j < k → k < length xs
      → is_before (slice_index_or xs j d).arc (slice_index_or xs k d).arc ≡ true

-- where the mark of an arc stands, which other arcs may share
abbrev pub mark_place : ArcKey → ℕ
mark_place a = ((a.rule * 8 + a.suffix) * 16 + (a.start * 1543 + a.len * 389) + a.part * 97) % 16384

-- some entry may have the arc
pub record IsMarked (marks : List Bool) (x : ArcPrice) : Type 0 where
  pub marked : slice_get marks (mark_place x.arc) ≡ Some false → ⊥

-- each entry is marked
abbrev pub AreMarked : List Bool → List ArcPrice → Type 0
AreMarked marks xs = All (IsMarked marks) xs

-- the price of the entry is at most n in size
pub record IsEntryWithin (n : ℕ) (x : ArcPrice) : Type 0 where
  pub price : Within n x.price

-- the arcs before place `low` come before the arc, and those from place `high` on do not
pub record IsSearched (xs : List ArcPrice) (a : ArcKey) (low high : ℕ) : Type 0 where
  pub order : low ≤ high
  pub within : high ≤ length xs
  pub under : (k : ℕ) (d : ArcPrice) → k < low → is_before (slice_index_or xs k d).arc a ≡ true
  pub above : (k : ℕ) (d : ArcPrice) → high ≤ k → k < length xs
      → is_before (slice_index_or xs k d).arc a ≡ false

-- the entry with its price raised
abbrev pub raised : ArcPrice → ℤ → ArcPrice
raised e z = record e { price = e.price +ℤ z }
