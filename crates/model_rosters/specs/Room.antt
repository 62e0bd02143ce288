-- The room for the steps of a tree.
use Rattle.std.specs.Prelude.{ℕ, ◌-◌, ◌*◌, List, length}
use Rattle.model_rosters.specs.declared.grammar.Grammar.{Grammar}
use Rattle.model_rosters.specs.declared.grammar.Step.{Step}

-- the steps of a room, and the most that it takes
pub record RoomView : Type 0 where
  pub steps : List Step
  pub most : ℕ

-- how many rule uses a tree of a span of n periods may have: a name stands at most once on a span,
-- and at most 2n - 1 spans of a tree have different letters or parts
abbrev pub most_uses : Grammar → ℕ
most_uses g = (2 * g.periods - 1) * length g.names
