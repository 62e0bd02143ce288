-- The numbers of a pool's trees, in the order of their rule uses.
use Rattle.std.specs.Prelude.{ℕ, zero, suc, ◌≡◌, ◌<◌, ◌≤◌, List, [], ◌∷◌, All, Contains, length, slice_index_or}
use Rattle.std.specs.Cmp.Lexicographic.{slice_cmp}
use Rattle.std.specs.List.Sorted.{IsSortedByKey, IsPartitionPoint}
use Rattle.std.specs.Ordering.{nat_cmp, ordering_then}
use Rattle.std.specs.declared.cmp.Ordering.{Ordering}
use Rattle.std.specs.declared.cmp.Ordering.TheVariants.{Less, Greater}
use Rattle.model_rosters.specs.declared.grammar.Step.{Step}
use Rattle.tree_pool.specs.declared.entry.Entry.{Entry}

-- the three numbers of a rule use
abbrev pub Rank : Type 0
Rank = ℕ × ℕ × ℕ

abbrev pub rank_of : Step → Rank
rank_of s = (s.rule, s.start, s.len)

-- the first number that differs decides
abbrev pub rank_cmp : Rank → Rank → Ordering
rank_cmp x y = ordering_then (ordering_then (nat_cmp x.0 y.0) (nat_cmp x.1 y.1)) (nat_cmp x.2 y.2)

abbrev pub step_cmp : Step → Step → Ordering
step_cmp a b = rank_cmp (rank_of a) (rank_of b)

-- the first rule uses that differ decide, and else the counts of them
abbrev pub steps_cmp : List Step → List Step → Ordering
steps_cmp = slice_cmp step_cmp

-- the rule uses of the tree of a number, and none where there is no such tree
abbrev pub steps_of : List Entry → ℕ → List Step
steps_of [] n = []
steps_of (e ∷ es) zero = e.tree.steps
steps_of (e ∷ es) (suc n) = steps_of es n

-- the number of each tree stands there, and no other, in the order of their rule uses
pub record IsOrder (es : List Entry) (ns : List ℕ) : Type 0 where
  pub ascending : IsSortedByKey (steps_of es) steps_cmp ns
  pub each : (n : ℕ) → n < length es → Contains ns n
  pub within : All (λ n. n < length es) ns

-- the number of the tree of these rule uses stands at a place
abbrev pub IsFoundAt : List Entry → List ℕ → List Step → ℕ → Type 0
IsFoundAt es ns xs p = (p < length ns) × (steps_of es (slice_index_or ns p 0) ≡ xs)

-- trees of lesser rule uses stand before a place, and those of greater ones from there on
pub record IsPlaceFor (es : List Entry) (ns : List ℕ) (xs : List Step) (p : ℕ) : Type 0 where
  pub within : p ≤ length ns
  pub parts : IsPartitionPoint (λ n. steps_cmp (steps_of es n) xs ≡ Less)
      (λ n. steps_cmp (steps_of es n) xs ≡ Greater) ns p
