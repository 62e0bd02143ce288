-- The laws on rosters, trees, prices and cuts that the crates above cite.
use Rattle.std.specs.Prelude.{ℕ, ℤ, pos, ◌≡◌, ◌≢◌, ◌≤◌, ◌+◌, ◌≤ℤ◌, ◌*ℤ◌, ◌⊎◌, Option, List, []}
use Rattle.model_rosters.specs.declared.grammar.ArcKey.{ArcKey}
use Rattle.model_rosters.specs.declared.instance.Cut.{Cut}
use Rattle.model_rosters.specs.declared.instance.Instance.{Instance}
use Rattle.model_rosters.specs.declared.instance.Mult.{Mult}
use Rattle.model_rosters.specs.declared.instance.Prices.{Prices}
use Rattle.model_rosters.specs.declared.instance.Side.TheVariants.{Low, High}
use Rattle.model_rosters.specs.Trees.{Parts, IsDayTree, word}
use Rattle.model_rosters.specs.Folds.{Each, In}
use Rattle.model_rosters.specs.Arcs.{cost}
use Rattle.model_rosters.specs.Duties.{Duty}
use Rattle.model_rosters.specs.Shifts.{IsWordTree}
use Rattle.model_rosters.specs.Teams.{Team, teams}
use Rattle.model_rosters.specs.Rosters.{ArePrices, IsRoster, Costs, roster_cost}
use Rattle.model_rosters.specs.GreatestCost.{greatest_cost}
use Rattle.model_rosters.specs.Cuts.{Meets, base_cuts}
use Rattle.model_rosters.specs.SoundInstance.{IsSoundInstance}
use Rattle.law_bounds.specs.Infeasible.{IsPlainlyInfeasible}
use Rattle.law_bounds.specs.Lagrangian.{IsLeastReduced, IsLagrangian, lagrangian_sum}
use Rattle.law_bounds.specs.Priced.{IsPricedValue}
use Rattle.law_bounds.specs.TreeRosters.{IsTreeRoster, trees_cost}
use Rattle.model_rosters.specs.tree_laws.Parts.{root}
use Rattle.law_bounds.specs.DutyTrees.{own_rules, AreDutyTrees}
use Rattle.law_bounds.specs.Pinned.{IsPinned, IsPinnedValue}
use Rattle.law_bounds.specs.Points.{IsPoints}

-- no multiplier is negative
abbrev pub AreNotNegative : Prices → Type 0
AreNotNegative p = Each (λ (m : Mult). pos 0 ≤ℤ m.value) p.mult

-- Weak duality: the Lagrangian sum is at most the cost, in units of 1 / d, of each list of trees
-- whose counts are those of an allowed roster and that meets the cuts.
abbrev pub LagrangianBound : Type 0
LagrangianBound =
    (i : Instance) (p : Prices) (cuts : List Cut) (z : Option ℤ) (ts : List Parts)
    → IsLeastReduced i p cuts z → AreNotNegative p → IsTreeRoster i ts → Each (Meets ts) cuts
    → lagrangian_sum i p cuts z ≤ℤ (pos p.d *ℤ pos (trees_cost i ts))

-- what prices show is at most that cost, where the instance is not plainly infeasible
abbrev pub PricedBound : Type 0
PricedBound =
    (i : Instance) (p : Prices) (cuts : List Cut) (v : ℕ) (ts : List Parts)
    → IsPricedValue i p cuts v → 1 ≤ p.d → AreNotNegative p → (IsPlainlyInfeasible i → ⊥)
    → IsTreeRoster i ts → Each (Meets ts) cuts
    → v ≤ trees_cost i ts

-- a plainly infeasible instance has no allowed roster
abbrev pub InfeasibleHasNone : Type 0
InfeasibleHasNone = (i : Instance) (ds : List Duty) (prices : List ℕ) → IsSoundInstance i
    → IsRoster i ds prices → IsPlainlyInfeasible i → ⊥

-- no such list of trees costs more than the greatest cost
abbrev pub TreesCostLess : Type 0
TreesCostLess = (i : Instance) (ts : List Parts) → IsSoundInstance i → IsTreeRoster i ts
    → trees_cost i ts ≤ greatest_cost i

-- no allowed roster costs more than the greatest cost
abbrev pub RostersCostLess : Type 0
RostersCostLess = (i : Instance) (ds : List Duty) (amount : ℕ) → IsSoundInstance i → Costs i ds amount
    → amount ≤ greatest_cost i

-- an allowed roster has a tree for each pair, of the same cost together
pub record HasTrees (i : Instance) (ds : List Duty) (prices : List ℕ) : Type 0 where
  pub trees : List Parts
  pub each : AreDutyTrees i ds trees
  pub cost : trees_cost i trees ≡ roster_cost i ds prices

abbrev pub RostersHaveTrees : Type 0
RostersHaveTrees = (i : Instance) (ds : List Duty) (prices : List ℕ) → IsSoundInstance i
    → IsRoster i ds prices → HasTrees i ds prices

-- trees whose counts are those of an allowed roster, that meet the base cuts and cost no less
pub record StandFor (i : Instance) (ds : List Duty) (prices : List ℕ) (ts : List Parts) : Type 0 where
  pub roster : IsTreeRoster i ts
  pub meets : Each (Meets ts) (base_cuts i)
  pub cost : roster_cost i ds prices ≤ trees_cost i ts

-- any choice of one tree for each pair of an allowed roster
abbrev pub TreesStandForRosters : Type 0
TreesStandForRosters =
    (i : Instance) (ds : List Duty) (prices : List ℕ) (ts : List Parts) → IsSoundInstance i
    → IsRoster i ds prices → AreDutyTrees i ds ts
    → StandFor i ds prices ts

-- a tree of the day is one of the team below the rule that its group adds: same word, same cost
pub record IsOfTeam (i : Instance) (t : Parts) (team : Team) : Type 0 where
  pub listed : In team (teams i)
  pub led : i.groups ≢ [] → root t ≡ own_rules i + team.number
  pub tree : Parts
  pub spells : IsWordTree i.grammar team.name (word i.grammar t) tree
  pub cost : cost i.grammar tree ≡ cost i.grammar t

-- each tree of the day is of some team
abbrev pub DayTreesHaveTeams : Type 0
DayTreesHaveTeams = (i : Instance) (t : Parts) → IsSoundInstance i → IsDayTree i.grammar t
    → (team : Team) × IsOfTeam i t team

-- an allowed roster that costs no more than its trees
pub record IsSpelledBy (i : Instance) (ds : List Duty) (prices : List ℕ) (ts : List Parts) : Type 0 where
  pub allowed : IsRoster i ds prices
  pub cost : roster_cost i ds prices ≤ trees_cost i ts

-- what trees spell that have the number and the coverage of an allowed roster and meet the base cuts
abbrev pub TreesSpellRosters : Type 0
TreesSpellRosters =
    (i : Instance) (ds : List Duty) (prices : List ℕ) (ts : List Parts) → IsSoundInstance i
    → ArePrices i ds prices → AreDutyTrees i ds ts
    → IsTreeRoster i ts → Each (Meets ts) (base_cuts i) → IsSpelledBy i ds prices ts

-- at every arc and number, any list of trees meets one half
abbrev pub OneHalf : Type 0
OneHalf =
    (a : ArcKey) (b : ℕ) (ts : List Parts)
    → Meets ts (record { arc = a; side = Low; b = b }) ⊎ Meets ts (record { arc = a; side = High; b = b })

-- within a pinned path the pinned value is the cost
abbrev pub PinnedIsCost : Type 0
PinnedIsCost =
    (i : Instance) (cuts : List Cut) (v : ℕ) (ts : List Parts) → IsSoundInstance i → IsPinned i cuts
    → IsPinnedValue i cuts v → IsTreeRoster i ts
    → Each (Meets ts) cuts → v ≡ trees_cost i ts

-- each of these values is one
pub record AreOneValue : Type 0 where
  pub lagrangian : (i : Instance) (p : Prices) (cuts : List Cut) (v w : ℤ) → IsLagrangian i p cuts v
      → IsLagrangian i p cuts w → v ≡ w
  pub priced : (i : Instance) (p : Prices) (cuts : List Cut) (v w : ℕ) → IsPricedValue i p cuts v
      → IsPricedValue i p cuts w → v ≡ w
  pub pinned : (i : Instance) (cuts : List Cut) (v w : ℕ) → IsPinnedValue i cuts v → IsPinnedValue i cuts w
      → v ≡ w
  pub points : (i : Instance) (m n : ℕ) → IsPoints i m → IsPoints i n → m ≡ n
