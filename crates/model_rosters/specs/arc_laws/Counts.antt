-- Counts of the arcs, as the trees of an allowed roster have them.
use Rattle.std.specs.Prelude.{ℕ, zero, suc, ◌≤◌, ◌+◌, ◌*◌, List}
use Rattle.model_rosters.specs.declared.grammar.ArcKey.{ArcKey}
use Rattle.model_rosters.specs.declared.grammar.Grammar.{Grammar}
use Rattle.model_rosters.specs.declared.instance.Cell.{Cell}
use Rattle.model_rosters.specs.declared.instance.Instance.{Instance}
use Rattle.model_rosters.specs.Folds.{sum_n, Each}
use Rattle.model_rosters.specs.Arcs.{rule_cost}
use Rattle.model_rosters.specs.Coverage.{penalty, IsWithinCell}
use Rattle.model_rosters.specs.arc_laws.OrNodes.{leaf, root_of}
use Rattle.model_rosters.specs.arc_laws.Balance.{made_sum, used_sum, IsBalanced}

-- how many of the trees have the cell's letter
abbrev pub letter_count : Grammar → List ArcKey → (ArcKey → ℕ) → Cell → ℕ
letter_count g listed value c = used_sum g listed value (leaf (record { code = c.code; period = c.period }))

-- how many trees there are
abbrev pub root_count : Grammar → List ArcKey → (ArcKey → ℕ) → ℕ
root_count g listed value = made_sum g listed value (root_of g)

-- the cost of a rule, paid by the arc of its whole right side
abbrev pub cost_at : Grammar → ℕ → ℕ → ℕ
cost_at g r zero = rule_cost g r
cost_at g r (suc k) = 0

abbrev pub top_cost : Grammar → ArcKey → ℕ
top_cost g a = cost_at g a.rule a.suffix

-- balanced, with the root's count in the range of the heads and each cell's within floor and ceiling
pub record AreCounts (i : Instance) (listed : List ArcKey) (value : ArcKey → ℕ) : Type 0 where
  pub balanced : IsBalanced i.grammar listed value
  pub enough : i.heads_min ≤ root_count i.grammar listed value
  pub few : root_count i.grammar listed value ≤ i.heads_max
  pub cells : Each (λ (c : Cell). IsWithinCell c (letter_count i.grammar listed value c)) i.cells

-- rule costs and penalties
abbrev pub counts_cost : Instance → List ArcKey → (ArcKey → ℕ) → ℕ
counts_cost i listed value =
    sum_n (λ a. value a * top_cost i.grammar a) listed
    + sum_n (λ (c : Cell). penalty c (letter_count i.grammar listed value c)) i.cells
