-- Pools of trees of the day.
use Rattle.std.specs.Prelude.{ℕ, ◌≡◌, ◌<◌, ◌⊎◌, ◌++◌, Some, length, List, [], ◌∷◌, slice_get, suc}
use Rattle.model_rosters.specs.declared.grammar.ArcKey.{ArcKey}
use Rattle.model_rosters.specs.declared.grammar.Grammar.{Grammar}
use Rattle.model_rosters.specs.declared.grammar.Step.{Step}
use Rattle.model_rosters.specs.Trees.{Parts, IsDayTree, steps}
use Rattle.model_rosters.specs.Arcs.{Letter, letters, arcs, cost, same_arc}
use Rattle.model_rosters.specs.Folds.{count}

-- what a contract sees of a tree of the pool: its rule uses in preorder, the codes of its letters by
-- period, its arcs, and its cost
pub record PoolTree : Type 0 where
  pub steps : List Step
  pub codes : List ℕ
  pub arcs : List ArcKey
  pub cost : ℕ

-- letters of these codes, from period i on
abbrev pub letters_from : ℕ → List ℕ → List Letter
letters_from i [] = []
letters_from i (c ∷ cs) = record { code = c; period = i } ∷ letters_from (suc i) cs

-- it is this tree, which is one of the day
pub record IsPoolTree (g : Grammar) (t : Parts) (x : PoolTree) : Type 0 where
  pub day : IsDayTree g t
  pub steps : x.steps ≡ steps 1 t
  pub letters : letters 1 t ≡ letters_from 1 x.codes
  pub arcs : (a : ArcKey) → count (same_arc a) x.arcs ≡ count (same_arc a) (arcs 1 t)
  pub cost : x.cost ≡ cost g t

-- each is a tree of the day, and no tree stands twice
pub record IsPool (g : Grammar) (pool : List PoolTree) : Type 0 where
  pub trees : (j : ℕ) (x : PoolTree) → slice_get pool j ≡ Some x → (t : Parts) × IsPoolTree g t x
  pub once : (j k : ℕ) (x y : PoolTree) → slice_get pool j ≡ Some x → slice_get pool k ≡ Some y
      → x.steps ≡ y.steps → j ≡ k

-- the old trees keep their numbers
abbrev pub IsGrown : List PoolTree → List PoolTree → Type 0
IsGrown old new = (more : List PoolTree) × (new ≡ old ++ more)

-- the pool stays, where the tree had this number, or it has the tree as its last one now
abbrev pub IsAdded : List PoolTree → List PoolTree → ℕ → Type 0
IsAdded old new n =
    ((new ≡ old) × (n < length old)) ⊎ ((x : PoolTree) × (new ≡ old ++ x ∷ []) × (n ≡ length old))

-- the arcs of each tree of the day with these steps, in any order
abbrev pub HasArcsOf : Grammar → List Step → List ArcKey → Type 0
HasArcsOf g xs listed =
    (t : Parts) → IsDayTree g t → xs ≡ steps 1 t
    → (a : ArcKey) → count (same_arc a) listed ≡ count (same_arc a) (arcs 1 t)
