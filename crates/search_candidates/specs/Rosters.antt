-- Rosters that are allowed, and what they cost.
use Rattle.std.specs.Prelude.{ℕ, ◌≡◌, ◌≤◌, Option, None, Some, IfSome, List, [], ◌∷◌, length, slice_get}
use Rattle.model_rosters.specs.declared.grammar.Grammar.{Grammar}
use Rattle.model_rosters.specs.declared.instance.Instance.{Instance}
use Rattle.model_rosters.specs.declared.instance.Shift.{Shift}
use Rattle.model_rosters.specs.Cuts.{Meets, base_cuts}
use Rattle.model_rosters.specs.Folds.{Each}
use Rattle.model_rosters.specs.Duties.{duty}
use Rattle.model_rosters.specs.Rosters.{ArePrices, IsTeamPrice}
use Rattle.model_rosters.specs.SoundInstance.{IsSoundInstance}
use Rattle.model_rosters.specs.Trees.{Parts}
use Rattle.law_bounds.specs.TreeRosters.{IsTreeRoster, trees_cost}
use Rattle.tree_span_table.specs.Tables.{IsMadeFor}
use Rattle.check_certificates.specs.RosterCauses.{duties, stated_prices}
use Rattle.check_certificates.specs.Sound.{IsGroupNumber, IsSoundShift}
use Rattle.check_certificates.specs.certificate_laws.Accepted.{IsStated}
use Rattle.tree_pool.specs.Pools.{PoolTree, IsPoolTree}
use Rattle.search_candidates.specs.declared.roster.Roster.{Roster}
use Rattle.search_candidates.specs.declared.workspace.RosterWorkspace.{RosterWorkspace}
use Rattle.search_candidates.specs.Order.{AreAscending}

-- the shifts are an allowed roster at exactly the cost, in their order
pub record IsGoodRoster (i : Instance) (r : Roster) : Type 0 where
  pub stated : IsStated i r.shifts r.cost
  pub ascending : AreAscending r.shifts
  pub sound : Each (IsSoundShift i) r.shifts
  pub few : length r.shifts ≤ 64

-- shifts of their teams at their prices, in their order
pub record ArePricedShifts (i : Instance) (shifts : List Shift) : Type 0 where
  pub prices : ArePrices i (duties shifts) (stated_prices shifts)
  pub ascending : AreAscending shifts
  pub sound : Each (IsSoundShift i) shifts
  pub few : length shifts ≤ 64

-- the columns are these trees, in their order
abbrev pub AreTreesAt : Grammar → List PoolTree → List ℕ → List Parts → Type 0
AreTreesAt g pool [] [] = Unit {0}
AreTreesAt g pool (c ∷ cs) (t ∷ ts) =
    (x : PoolTree) × (slice_get pool c ≡ Some x) × IsPoolTree g t x × AreTreesAt g pool cs ts
AreTreesAt g pool [] (t ∷ ts) = ⊥
AreTreesAt g pool (c ∷ cs) [] = ⊥

-- there is a roster that costs at most so much
abbrev pub CostsAtMost : ℕ → Option Roster → Type 0
CostsAtMost most None = ⊥
CostsAtMost most (Some r) = r.cost ≤ most

-- a roster of the words of these columns' trees is allowed; where the trees are a roster that meets the base
-- cuts, there is one, and it costs no more than they do
pub record IsRosterOf (i : Instance) (pool : List PoolTree) (columns : List ℕ)
    (found : Option Roster) : Type 0 where
  pub good : IfSome found (IsGoodRoster i)
  pub cost : (ts : List Parts) → AreTreesAt i.grammar pool columns ts → IsTreeRoster i ts
      → Each (Meets ts) (base_cuts i) → CostsAtMost (trees_cost i ts) found

-- each is a shift of its team, at its price
abbrev pub AreKnown : Instance → List Shift → Type 0
AreKnown i = Each (λ (s : Shift). IsTeamPrice i (duty s) s.price)

-- a word of so few bytes as the workspace has room for, and the number of a team
pub record MayBeAsked (i : Instance) (g : ℕ) (w : List ℕ) : Type 0 where
  pub group : IsGroupNumber i.groups g
  pub short : length w ≤ 96

-- the workspace was made for the instance, which is sound, and the prices that it knows are right
pub record IsWorkspaceFor (i : Instance) (d : RosterWorkspace) : Type 0 where
  pub sound : IsSoundInstance i
  pub table : IsMadeFor i.grammar d.table
  pub room : d.room ≡ []
  pub known : AreKnown i d.known
