-- Sound instances.
use Rattle.std.specs.Prelude.{ℕ, ◌≡◌, ◌≢◌, ◌≤◌, ◌<◌, Some, List, [], ◌∷◌, All, length, slice_get}
use Rattle.model_rosters.specs.declared.grammar.Grammar.{Grammar}
use Rattle.model_rosters.specs.declared.instance.Group.{Group}
use Rattle.model_rosters.specs.declared.instance.Instance.{Instance}
use Rattle.model_rosters.specs.Demands.{AreCells}
use Rattle.model_rosters.specs.Extension.{extended}
use Rattle.model_rosters.specs.Folds.{sum_n}
use Rattle.model_rosters.specs.Sound.{IsSound, IsPlain}

-- a group of employees of one of the names
pub record IsGroup (names : ℕ) (group : Group) : Type 0 where
  pub name : group.name < names
  pub order : group.heads_min ≤ group.heads_max
  pub some : 1 ≤ group.heads_max

-- at most 8 groups, of different names
pub record AreGroups (names : ℕ) (groups : List Group) : Type 0 where
  pub few : length groups ≤ 8
  pub each : All (IsGroup names) groups
  pub apart : (i j : ℕ) (a b : Group) → i < j → slice_get groups i ≡ Some a → slice_get groups j ≡ Some b
      → a.name ≢ b.name

-- the instance is that of a grammar and of groups of its names
pub record IsGroupedBy (i : Instance) (g : Grammar) : Type 0 where
  pub sound : IsSound g
  pub plain : IsPlain g
  pub groups : AreGroups (length g.names) i.groups
  pub grammar : i.grammar ≡ extended g i.groups
  pub least : i.heads_min ≡ sum_n (λ (group : Group). group.heads_min) i.groups
  pub most : i.heads_max ≡ sum_n (λ (group : Group). group.heads_max) i.groups

-- without groups the grammar is that of a rules text, and with groups it is the extension of one
abbrev pub HasGroups : Instance → List Group → Type 0
HasGroups i [] = IsPlain i.grammar
HasGroups i (group ∷ groups) = (g : Grammar) × IsGroupedBy i g

-- a sound instance
pub record IsSoundInstance (i : Instance) : Type 0 where
  pub grammar : IsSound i.grammar
  pub order : i.heads_min ≤ i.heads_max
  pub some : 1 ≤ i.heads_max
  pub few : i.heads_max ≤ 64
  pub groups : HasGroups i i.groups
  pub cells : AreCells i.grammar i.cells
