-- What a pass in numbers of one width works in.
use Rattle.std.specs.Prelude.{ℕ, ◌≡◌, length}
use Rattle.tree_cheapest.specs.declared.pass_workspace.PassWorkspace.{PassWorkspace}
use Rattle.tree_cheapest.specs.Extras.{AreFree}

-- there is room for all rules, so many arcs, whose prices are 0, and so many slots
pub record IsRoomFor {N : Type 0} (arcs slots : ℕ) (room : PassWorkspace N) : Type 0 where
  pub rules : length room.rules.items ≡ 257
  pub free : AreFree arcs room.extras.prices.items
  pub sums : length room.sums.items ≡ slots
