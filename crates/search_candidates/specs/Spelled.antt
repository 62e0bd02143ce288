-- Shifts that trees spell, each at its word's price.
use Rattle.std.specs.Prelude.{ℕ, ◌≡◌, Some, List, [], ◌∷◌, slice_get}
use Rattle.model_rosters.specs.declared.grammar.Grammar.{Grammar}
use Rattle.model_rosters.specs.declared.instance.Instance.{Instance}
use Rattle.model_rosters.specs.declared.instance.Shift.{Shift}
use Rattle.model_rosters.specs.Duties.{duty}
use Rattle.model_rosters.specs.Folds.{sum_n, Each, In}
use Rattle.model_rosters.specs.Rosters.{IsTeamPrice}
use Rattle.model_rosters.specs.Shifts.{IsShift}
use Rattle.model_rosters.specs.Teams.{Team, teams}
use Rattle.model_rosters.specs.Trees.{Parts, IsDayTree}
use Rattle.law_bounds.specs.DutyTrees.{IsDutyTree}
use Rattle.law_bounds.specs.Laws.{IsOfTeam}
use Rattle.check_certificates.specs.Sound.{IsSoundShift}
use Rattle.tree_pool.specs.Pools.{PoolTree, IsPoolTree}
use Rattle.search_candidates.specs.Order.{AreAscending}
use Rattle.search_candidates.specs.Rosters.{AreTreesAt}

-- the column of the pool is the tree
abbrev pub IsTreeAt : Grammar → List PoolTree → ℕ → Parts → Type 0
IsTreeAt g pool c t = (x : PoolTree) × (slice_get pool c ≡ Some x) × IsPoolTree g t x

-- the tree is one of the team of this number
pub record IsOfNumber (i : Instance) (t : Parts) (n : ℕ) : Type 0 where
  pub team : Team
  pub of : IsOfTeam i t team
  pub number : team.number ≡ n

-- the word is a shift of the team of this number
pub record IsTeamShift (i : Instance) (n : ℕ) (w : List ℕ) : Type 0 where
  pub team : Team
  pub listed : In team (teams i)
  pub number : team.number ≡ n
  pub shift : IsShift i.grammar team.name w

-- the shift that the tree spells, at its price
pub record IsShiftOf (i : Instance) (t : Parts) (s : Shift) : Type 0 where
  pub spells : IsDutyTree i (duty s) t
  pub priced : IsTeamPrice i (duty s) s.price
  pub sound : IsSoundShift i s

-- it is that of the tree of this column
abbrev pub IsShiftAt : Instance → List PoolTree → ℕ → Shift → Type 0
IsShiftAt i pool column s = (t : Parts) → IsTreeAt i.grammar pool column t → IsShiftOf i t s

abbrev pub AreShiftsOf : Instance → List Parts → List Shift → Type 0
AreShiftsOf i [] [] = Unit {0}
AreShiftsOf i (t ∷ ts) (s ∷ ss) = IsShiftOf i t s × AreShiftsOf i ts ss
AreShiftsOf i [] (s ∷ ss) = ⊥
AreShiftsOf i (t ∷ ts) [] = ⊥

-- the same trees in some order, as far as sums over them and days tell
pub record IsReordered (g : Grammar) (ts us : List Parts) : Type 0 where
  pub days : Each (IsDayTree g) ts → Each (IsDayTree g) us
  pub sums : (f : Parts → ℕ) → sum_n f us ≡ sum_n f ts

-- the shifts are those of these trees, in some order
pub record AreSpelled (i : Instance) (ts : List Parts) (ss : List Shift) : Type 0 where
  pub trees : List Parts
  pub same : IsReordered i.grammar ts trees
  pub each : AreShiftsOf i trees ss

-- they are those of the trees of these columns
abbrev pub AreShiftsAt : Instance → List PoolTree → List ℕ → List Shift → Type 0
AreShiftsAt i pool columns ss = (ts : List Parts) → AreTreesAt i.grammar pool columns ts → AreSpelled i ts ss

-- and they stand in their order
pub record AreOrderedAt (i : Instance) (pool : List PoolTree) (columns : List ℕ)
    (ss : List Shift) : Type 0 where
  pub spelled : AreShiftsAt i pool columns ss
  pub ascending : AreAscending ss
