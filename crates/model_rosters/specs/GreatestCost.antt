-- What no roster costs more than.
use Rattle.std.specs.Prelude.{ℕ, ◌+◌, ◌*◌, max, List, [], ◌∷◌}
use Rattle.model_rosters.specs.declared.grammar.Rule.{Rule}
use Rattle.model_rosters.specs.declared.instance.Cell.{Cell}
use Rattle.model_rosters.specs.declared.instance.Instance.{Instance}
use Rattle.model_rosters.specs.Folds.{sum_n}
use Rattle.model_rosters.specs.Room.{most_uses}

abbrev pub greatest_rule_cost : List Rule → ℕ
greatest_rule_cost [] = 0
greatest_rule_cost (r ∷ rs) = max r.cost (greatest_rule_cost rs)

-- the greatest penalty of a cell where at most this many employees work
abbrev pub greatest_penalty : ℕ → Cell → ℕ
greatest_penalty most c = max (c.under * c.need) (c.over * most)

-- each employee's tree has at most so many rule uses, each at most at the greatest rule cost
abbrev pub greatest_cost : Instance → ℕ
greatest_cost i =
    i.heads_max * (most_uses i.grammar * greatest_rule_cost i.grammar.rules)
    + sum_n (greatest_penalty i.heads_max) i.cells
