-- Hard nodes, and sharp splits.
use Rattle.std.specs.Prelude.{ℕ, pos, ◌<◌, ◌≤◌, ◌+◌, ◌*◌, ◌^◌, ◌≡◌, ◌⊎◌, ◌*ℤ◌, ◌≤ℤ◌, Bool, false, List, [], ◌∷◌, length}
use Rattle.model_rosters.specs.declared.grammar.ArcKey.{ArcKey}
use Rattle.model_rosters.specs.declared.instance.Cut.{Cut}
use Rattle.model_rosters.specs.declared.instance.Instance.{Instance}
use Rattle.model_rosters.specs.Trees.{Parts}
use Rattle.law_bounds.specs.linear_programs.Solution.{Weighted, IsBasic, CostsLeast, Uses, weight_where}
use Rattle.law_bounds.specs.linear_programs.Tableau.{HasWidePath, HasOpenPath}
use Rattle.law_bounds.specs.master_laws.Rows.{rows_of, tree_arcs, HoldsAt}
use Rattle.law_bounds.specs.master_laws.Master.{MasterKey, missing, beyond, tree, IsArtificial, master}

-- A node whose master may be given up: it has more than 1,500 rows, or a pivot path that is wide, or
-- one of 5,000 steps that is not at its end.
abbrev pub IsHard : Instance → List Cut → Type 0
IsHard i cuts = (1500 < length (rows_of i cuts)) ⊎ HasWidePath (master i cuts)
    ⊎ HasOpenPath (master i cuts) 5000

abbrev pub arcs_in : ArcKey → MasterKey → ℕ
arcs_in a (missing r) = 0
arcs_in a (beyond r) = 0
arcs_in a (tree t) = tree_arcs a t

-- the weight of the trees that have the arc
abbrev pub arc_weight : ArcKey → List (Weighted MasterKey) → ℕ
arc_weight a [] = 0
arc_weight a (w ∷ ws) = w.weight * arcs_in a w.key + arc_weight a ws

-- an artificial column has a weight above 0
abbrev pub UsesArtificial : Instance → List Cut → List (Weighted MasterKey) → Type 0
UsesArtificial i cuts ws = (r : ℕ) × HoldsAt IsArtificial (rows_of i cuts) r × Uses ws (missing r)

-- a test of trees, as one of columns
abbrev pub on_trees : (Parts → Bool) → MasterKey → Bool
on_trees t (missing r) = false
on_trees t (beyond r) = false
on_trees t (tree p) = t p

-- the weights of the trees, over q, are whole numbers over d
abbrev pub IsTreeDenominator : List (Weighted MasterKey) → ℕ → ℕ → Type 0
IsTreeDenominator ws q d = (t : Parts → Bool) → (n : ℕ) × (d * weight_where (on_trees t) ws ≡ q * n)

-- the least common denominator of the trees' weights is above 2^100
abbrev pub AreFine : List (Weighted MasterKey) → ℕ → Type 0
AreFine ws q = (d : ℕ) → 1 ≤ d → IsTreeDenominator ws q d → 2 ^ 100 < d

-- a basic solution of least cost in which the arc's weight is strictly between b and b + 1, or an
-- artificial column has a weight, or the weights are fine
pub record IsSharpBy (i : Instance) (cuts : List Cut) (a : ArcKey) (b : ℕ) (ws : List (Weighted MasterKey))
    (q : ℕ) : Type 0 where
  pub basic : IsBasic (master i cuts) ws q
  pub least : CostsLeast (master i cuts) ws q
  pub reason : ((q * b < arc_weight a ws) × (arc_weight a ws < q * (b + 1))) ⊎ UsesArtificial i cuts ws
      ⊎ AreFine ws q

-- the split of the node on the arc at b is sharp
abbrev pub IsSharp : Instance → List Cut → ArcKey → ℕ → Type 0
IsSharp i cuts a b = (ws : List (Weighted MasterKey)) × (q : ℕ) × IsSharpBy i cuts a b ws q
