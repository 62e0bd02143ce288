-- Sets of periods.
use Rattle.std.specs.Prelude.{ℕ, ◌≡◌, List, length, slice_index_or}
use Rattle.std.specs.Int.{bit_at}
use Rattle.tree_span_cells.specs.declared.periods.Periods.{Periods}
use Rattle.tree_span_cells.specs.declared.present.Present.{Present}

-- the period is in the set
abbrev pub Has : Periods → ℕ → Type 0
Has s n = bit_at s.bits n ≡ 1

-- the set at a spot
abbrev pub set_at : List Periods → ℕ → Periods
set_at ss n = slice_index_or ss n (record { bits = 0 })

-- a span from one period to before another is noted, at the spots of these two
pub record IsNoted (p : Present) (from to start end : ℕ) : Type 0 where
  pub ends : Has (set_at p.ends.items from) end
  pub starts : Has (set_at p.starts.items to) start

-- nothing that is noted was lost
pub record Keeps (old new : Present) : Type 0 where
  pub count_ends : length new.ends.items ≡ length old.ends.items
  pub count_starts : length new.starts.items ≡ length old.starts.items
  pub ends : (n q : ℕ) → Has (set_at old.ends.items n) q → Has (set_at new.ends.items n) q
  pub starts : (n q : ℕ) → Has (set_at old.starts.items n) q → Has (set_at new.starts.items n) q
