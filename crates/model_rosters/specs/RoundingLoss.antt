-- What rounding prices to whole numbers may take off the Lagrangian value.
use Rattle.std.specs.Prelude.{ℕ, ◌+◌, ◌*◌, length}
use Rattle.model_rosters.specs.declared.instance.Instance.{Instance}

-- with this many cuts
abbrev pub rounding_loss : Instance → ℕ → ℕ
rounding_loss i cuts = i.heads_max * (i.grammar.periods + 2 * cuts + length i.cells)
