-- The first trees of a day in their order.
use Rattle.std.specs.Prelude.{ℕ, ◌≡◌, ◌≤◌, ◌<ℤ◌, ◌⊎◌, List, [], ◌∷◌, Some, length}
use Rattle.model_rosters.specs.declared.grammar.Grammar.{Grammar}
use Rattle.model_rosters.specs.declared.grammar.Step.{Step}
use Rattle.model_rosters.specs.Arcs.{ComesFirst}
use Rattle.model_rosters.specs.Folds.{Each, In}
use Rattle.model_rosters.specs.Sums.{PriceView, tree_sum}
use Rattle.model_rosters.specs.Trees.{Parts, IsDayTree, steps}
use Rattle.tree_ranking.specs.declared.ranking.Ranked.{Ranked}

-- the numbers of rule uses: of each its rule, its start and its length
abbrev pub use_numbers : List Step → List ℕ
use_numbers [] = []
use_numbers (s ∷ ss) = s.rule ∷ s.start ∷ s.len ∷ use_numbers ss

-- the first number that differs is smaller
abbrev pub UsesBefore : List Step → List Step → Type 0
UsesBefore ss ts = ComesFirst (use_numbers ss) (use_numbers ts)

-- a lesser sum comes first, and with the same sum the lesser list of rule uses
abbrev pub RankedBefore : Ranked → Ranked → Type 0
RankedBefore a b = (a.sum <ℤ b.sum) ⊎ ((a.sum ≡ b.sum) × UsesBefore a.tree b.tree)

-- a tree of the day by its sum and its rule uses
pub record IsRankedTree (g : Grammar) (p : PriceView) (r : Ranked) : Type 0 where
  pub tree : Parts
  pub of_day : IsDayTree g tree
  pub sum : tree_sum p 1 tree ≡ Some r.sum
  pub uses : r.tree ≡ steps 1 tree

-- each comes before all that follow it
abbrev pub AreAscending : List Ranked → Type 0
AreAscending [] = Unit {0}
AreAscending (r ∷ rs) = Each (RankedBefore r) rs × AreAscending rs

-- The first trees of the day in their order, at most so many: a tree that has a sum and is not given
-- comes after all that are given, and then these are as many as asked for.
pub record IsRanking (g : Grammar) (p : PriceView) (most : ℕ) (rs : List Ranked) : Type 0 where
  pub of_day : Each (IsRankedTree g p) rs
  pub ascending : AreAscending rs
  pub complete : (r : Ranked) → IsRankedTree g p r
      → In r rs ⊎ (Each (λ q. RankedBefore q r) rs × (length rs ≡ most))
  pub few : length rs ≤ most
