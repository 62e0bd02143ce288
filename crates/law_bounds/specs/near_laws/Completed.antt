-- Weights of trees, completed by the rows' own columns to a solution of a master.
use Rattle.std.specs.Prelude.{ℕ, suc, ◌+◌, ◌-◌, ◌*◌, ◌≤◌, ◌≡◌, Bool, false, cond, nat_lt, List, [], ◌∷◌, ◌++◌}
use Rattle.model_rosters.specs.declared.instance.Cut.{Cut}
use Rattle.model_rosters.specs.declared.instance.Instance.{Instance}
use Rattle.model_rosters.specs.Trees.{Parts}
use Rattle.model_rosters.specs.Folds.{sum_n}
use Rattle.model_rosters.specs.Arcs.{cost}
use Rattle.law_bounds.specs.linear_programs.Solution.{Weighted}
use Rattle.law_bounds.specs.BestPrices.{artificial_cost}
use Rattle.law_bounds.specs.master_laws.Rows.{Row, rows_of}
use Rattle.law_bounds.specs.master_laws.Master.{MasterKey, missing, beyond, tree, missing_cost, beyond_cost, has_beyond}

-- what weighted trees bring to a row, times q
abbrev pub trees_bring : Row → List (Weighted Parts) → ℕ
trees_bring x [] = 0
trees_bring x (w ∷ ws) = w.weight * x.brings w.key + trees_bring x ws

-- what weighted trees cost, times q
abbrev pub weighted_cost : Instance → List (Weighted Parts) → ℕ
weighted_cost i [] = 0
weighted_cost i (w ∷ ws) = w.weight * cost i.grammar w.key + weighted_cost i ws

-- the trees bring more than the row's right side
abbrev pub is_exceeded : ℕ → List (Weighted Parts) → Row → Bool
is_exceeded q ws x = nat_lt (q * x.right) (trees_bring x ws)

-- how far what the trees bring is from the row's right side, times q
abbrev pub residual : ℕ → List (Weighted Parts) → Row → ℕ
residual q ws x = cond (is_exceeded q ws x) (trees_bring x ws - q * x.right) (q * x.right - trees_bring x ws)

-- the column of row r that takes this: what is beyond where the trees bring more, and what is missing where they
-- do not
abbrev pub own_key : Bool → ℕ → MasterKey
own_key exceeded r = cond exceeded (beyond r) (missing r)

-- what a unit of it costs, k being the cost of an artificial column
abbrev pub own_cost : ℕ → Bool → Row → ℕ
own_cost k exceeded x = cond exceeded (beyond_cost x.sense) (missing_cost k x.sense)

-- what the residual of a row costs, times q
abbrev pub residual_cost : ℕ → ℕ → List (Weighted Parts) → Row → ℕ
residual_cost k q ws x = residual q ws x * own_cost k (is_exceeded q ws x) x

-- a row without a column for what is beyond is not exceeded
abbrev pub IsKept : ℕ → List (Weighted Parts) → Row → Type 0
IsKept q ws x = has_beyond x.sense ≡ false → trees_bring x ws ≤ q * x.right

-- the trees' columns with their weights
abbrev pub tree_columns : List (Weighted Parts) → List (Weighted MasterKey)
tree_columns [] = []
tree_columns (w ∷ ws) = record { weight = w.weight; key = tree w.key } ∷ tree_columns ws

-- the columns that take the residuals of rows, numbered from r
abbrev pub own_columns : ℕ → List (Weighted Parts) → ℕ → List Row → List (Weighted MasterKey)
own_columns q ws r [] = []
own_columns q ws r (x ∷ rows) =
    record { weight = residual q ws x; key = own_key (is_exceeded q ws x) r } ∷ own_columns q ws (suc r) rows

-- the trees' columns and those of all rows
abbrev pub completed : Instance → List Cut → ℕ → List (Weighted Parts) → List (Weighted MasterKey)
completed i cuts q ws = tree_columns ws ++ own_columns q ws 0 (rows_of i cuts)

-- what they cost together, times q
abbrev pub completed_cost : Instance → List Cut → ℕ → List (Weighted Parts) → ℕ
completed_cost i cuts q ws =
    weighted_cost i ws + sum_n (residual_cost (artificial_cost i) q ws) (rows_of i cuts)

-- a column of a row's own, no tree
abbrev pub IsOwn : MasterKey → Type 0
IsOwn (missing r) = Unit {0}
IsOwn (beyond r) = Unit {0}
IsOwn (tree t) = ⊥
