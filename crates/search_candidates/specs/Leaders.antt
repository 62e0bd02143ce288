-- Cheapest trees of teams, each as often as its team needs employees.
use Rattle.std.specs.Prelude.{ℕ, pos, ◌≡◌, ◌≢◌, ◌≤◌, ◌<◌, ◌+◌, Bool, IsTrue, IsFalse, Option, Some, IfSome, IfNone, List, [], ◌∷◌, ◌++◌, zero, suc}
use Rattle.model_rosters.specs.declared.grammar.Grammar.{Grammar}
use Rattle.model_rosters.specs.declared.instance.Instance.{Instance}
use Rattle.model_rosters.specs.Arcs.{cost}
use Rattle.model_rosters.specs.Folds.{In}
use Rattle.model_rosters.specs.Room.{RoomView}
use Rattle.model_rosters.specs.Sums.{PriceView, tree_sum}
use Rattle.model_rosters.specs.Teams.{Team, teams}
use Rattle.model_rosters.specs.Trees.{Parts, IsDayTree, steps}
use Rattle.model_rosters.specs.tree_laws.Parts.{root}
use Rattle.law_bounds.specs.DutyTrees.{own_rules}
use Rattle.tree_pool.specs.Pools.{PoolTree}
use Rattle.search_candidates.specs.Rosters.{AreTreesAt}

-- the sum of each tree of the day is its cost
abbrev pub AreCosts : Grammar → PriceView → Type 0
AreCosts g p = (t : Parts) → IsDayTree g t → tree_sum p 1 t ≡ Some (pos (cost g t))

-- a tree of the day, with groups by the rule that the team's group adds
pub record IsTeamTree (i : Instance) (o : Team) (t : Parts) : Type 0 where
  pub day : IsDayTree i.grammar t
  pub led : i.groups ≢ [] → root t ≡ own_rules i + o.number

-- such a tree, and none costs less
pub record IsLeader (i : Instance) (o : Team) (t : Parts) : Type 0 where
  pub of : IsTeamTree i o t
  pub least : (u : Parts) → IsTeamTree i o u → cost i.grammar t ≤ cost i.grammar u

-- the room holds the steps of such a tree
pub record HoldsLeader (i : Instance) (o : Team) (room : RoomView) : Type 0 where
  pub tree : Parts
  pub leads : IsLeader i o tree
  pub held : room.steps ≡ steps 1 tree

-- a team has no tree
abbrev pub HasNoTree : Instance → Team → Type 0
HasNoTree i o = (u : Parts) → IsTeamTree i o u → ⊥

-- whether the room holds a cheapest tree of the team, or it has none
pub record TellsLeader (i : Instance) (o : Team) (room : RoomView) (has : Bool) : Type 0 where
  pub yes : IsTrue has → HoldsLeader i o room
  pub no : IsFalse has → HasNoTree i o

-- a team that needs employees has none
pub record LacksTree (i : Instance) (o : Team) : Type 0 where
  pub needs : 0 < o.least
  pub none : HasNoTree i o

-- some team has no tree, and needs employees
abbrev pub LacksSome : Instance → Type 0
LacksSome i = (o : Team) × In o (teams i) × LacksTree i o

-- the same tree many times
abbrev pub trees_like : ℕ → Parts → List Parts
trees_like zero t = []
trees_like (suc n) t = t ∷ trees_like n t

-- for each team a cheapest tree as often as it needs employees
abbrev pub AreLed : Instance → List Team → List Parts → Type 0
AreLed i [] ts = ts ≡ []
AreLed i (o ∷ os) ts =
    (t : Parts) × (rest : List Parts) × (0 < o.least → IsLeader i o t) × (ts ≡ trees_like o.least t ++ rest)
    × AreLed i os rest

-- so are the columns
abbrev pub AreLedAt : Instance → List PoolTree → List Team → List ℕ → Type 0
AreLedAt i pool os columns = (ts : List Parts) × AreTreesAt i.grammar pool columns ts × AreLed i os ts

-- whatever columns there were of other teams, now there are those of this team as well
abbrev pub Leads : Instance → List PoolTree → List PoolTree → Team → List ℕ → List ℕ → Type 0
Leads i old_pool new_pool o old new = (os : List Team) → AreLedAt i old_pool os old
    → AreLedAt i new_pool (os ++ o ∷ []) new

-- the columns of each team, none where some team lacks a tree
pub record FindsLeaders (i : Instance) (pool : List PoolTree) (found : Option (List ℕ)) : Type 0 where
  pub led : IfSome found (AreLedAt i pool (teams i))
  pub none : IfNone found (LacksSome i)

-- columns of the team were added; where it has no tree, it needs one
pub record AddsTeam (i : Instance) (o : Team) (old_pool new_pool : List PoolTree) (old new : List ℕ)
    (has : Bool) : Type 0 where
  pub yes : IsTrue has → Leads i old_pool new_pool o old new
  pub no : IsFalse has → LacksTree i o

-- the same number many times
abbrev pub numbers_like : ℕ → ℕ → List ℕ
numbers_like zero c = []
numbers_like (suc n) c = c ∷ numbers_like n c
