-- Rosters that are being completed.
use Rattle.std.specs.Prelude.{ℕ, ◌≡◌, ◌<◌, All, length}
use Rattle.model_rosters.specs.declared.instance.Instance.{Instance}
use Rattle.model_rosters.specs.Room.{most_uses}
use Rattle.search_moves.specs.declared.draft.Draft.{Draft}

-- each tree is one of the n trees of a pool, each cell has its count and its saving, and there is room for
-- each tree of the day
pub record IsDraft (i : Instance) (n : ℕ) (d : Draft) : Type 0 where
  pub columns : All (λ (c : ℕ). c < n) d.columns.items
  pub counts : length d.counts.items ≡ length i.cells
  pub savings : length d.savings.items ≡ length i.cells
  pub room : d.room.most ≡ most_uses i.grammar
