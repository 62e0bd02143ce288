-- The search for ranks of the names: which names each name leads to, as the bits of a number.
use Rattle.std.specs.Prelude.{ℕ, ◌≡◌, ◌≤◌, ◌<◌, List, All, length, slice_index}
use Rattle.std.specs.Int.{bit_at}
use Rattle.model_rosters.specs.declared.grammar.Grammar.{Grammar}
use Rattle.model_rosters.specs.Sound.{IsRule}
use Rattle.model_rosters.specs.UnitRules.{LeadsBy, Leads}

-- 33 names at most, and rules whose symbols exist
pub record HasNames (g : Grammar) : Type 0 where
  pub few : length g.names ≤ 33
  pub rules : All (IsRule (length g.codes) (length g.names)) g.rules

-- 1 where y is among the names that x reaches, and else 0
abbrev pub reach_bit : List ℕ → ℕ → ℕ → ℕ
reach_bit reach x y = bit_at (slice_index reach x) y

-- each name reaches only names that one-symbol rules lead to
pub record ReachesOnlyLed (g : Grammar) (reach : List ℕ) : Type 0 where
  pub led : (x y : ℕ) → reach_bit reach x y ≡ 1 → Leads g x y

-- each name reaches the names that a rule of one symbol leads to
pub record ReachesSteps (g : Grammar) (reach : List ℕ) : Type 0 where
  pub steps : (r x y : ℕ) → LeadsBy g r x y → reach_bit reach x y ≡ 1

-- what is reached from a reached name below k is reached
pub record IsClosedBelow (k : ℕ) (reach : List ℕ) : Type 0 where
  pub through : (x m y : ℕ) → m < k → reach_bit reach x m ≡ 1 → reach_bit reach m y ≡ 1
      → reach_bit reach x y ≡ 1
