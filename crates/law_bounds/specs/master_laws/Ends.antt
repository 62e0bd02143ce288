-- The end of a pivot path of a master, and the weights of its solution by trees and other columns.
use Rattle.std.specs.Prelude.{ℕ, ℤ, zero, suc, pos, ◌≡◌, ◌<◌, ◌*ℤ◌, List, [], ◌∷◌, ◌++◌}
use Rattle.model_rosters.specs.declared.instance.Cut.{Cut}
use Rattle.model_rosters.specs.declared.instance.Instance.{Instance}
use Rattle.law_bounds.specs.linear_programs.Program.{IsPricedOut}
use Rattle.law_bounds.specs.linear_programs.Solution.{Weighted, IsValue, IsBasic, CostsLeast}
use Rattle.law_bounds.specs.linear_programs.Tableau.{Tableau, PivotPath, on_basis, IsTableauSolution}
use Rattle.law_bounds.specs.master_laws.Master.{MasterKey, missing, beyond, tree, master}
use Rattle.law_bounds.specs.master_laws.Laws.{ArePricesOf}

-- a weight of a tree before others, save one of 0
abbrev pub tree_first : MasterKey → ℕ → List (Weighted MasterKey) → List (Weighted MasterKey)
tree_first (missing r) n ws = ws
tree_first (beyond r) n ws = ws
tree_first (tree t) zero ws = ws
tree_first (tree t) (suc n) ws = record { weight = suc n; key = tree t } ∷ ws

-- the weights above 0 of trees
abbrev pub tree_weights : List (Weighted MasterKey) → List (Weighted MasterKey)
tree_weights [] = []
tree_weights (w ∷ ws) = tree_first w.key w.weight (tree_weights ws)

abbrev pub other_first : MasterKey → ℕ → List (Weighted MasterKey) → List (Weighted MasterKey)
other_first (missing r) n ws = record { weight = n; key = missing r } ∷ ws
other_first (beyond r) n ws = record { weight = n; key = beyond r } ∷ ws
other_first (tree t) n ws = ws

-- the weights of other columns
abbrev pub other_weights : List (Weighted MasterKey) → List (Weighted MasterKey)
other_weights [] = []
other_weights (w ∷ ws) = other_first w.key w.weight (other_weights ws)

-- a basic solution of least cost stays one where its weights are sorted so
abbrev pub WeightsApart : Type 0
WeightsApart =
    (i : Instance) (cuts : List Cut) (ws : List (Weighted MasterKey)) (q : ℕ) → IsBasic (master i cuts) ws q
    → CostsLeast (master i cuts) ws q
    → IsBasic (master i cuts) (tree_weights ws ++ other_weights ws) q
    × CostsLeast (master i cuts) (tree_weights ws ++ other_weights ws) q

-- what the end of a pivot path tells, v / q being its value over kappa
pub record IsPathEnd (i : Instance) (cuts : List Cut) (t : Tableau MasterKey) (v : ℤ) (q : ℕ) : Type 0 where
  pub prices : ArePricesOf i cuts t.y t.kappa v q
  pub value : IsValue (master i cuts) v q
  pub basic : (w : ℕ → ℕ) (d : ℕ) → IsTableauSolution (master i cuts) t w d
      → IsBasic (master i cuts) (on_basis t.basis w (master i cuts).rows) d
  pub least : (w : ℕ → ℕ) (d : ℕ) → IsTableauSolution (master i cuts) t w d
      → CostsLeast (master i cuts) (on_basis t.basis w (master i cuts).rows) d

abbrev pub PathEnds : Type 0
PathEnds =
    (i : Instance) (cuts : List Cut) (n : ℕ) (t : Tableau MasterKey) (v : ℤ) (q : ℕ)
    → PivotPath (master i cuts) n t → IsPricedOut (master i cuts) t.y t.kappa
    → 0 < q → v *ℤ t.kappa ≡ t.value *ℤ pos q → IsPathEnd i cuts t v q
