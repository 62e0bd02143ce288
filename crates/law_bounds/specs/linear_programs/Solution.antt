-- Solutions of linear programs: weighted columns, in whole numbers over a common denominator q.
use Rattle.std.specs.Prelude.{ℕ, ℤ, Bool, pos, ◌+◌, ◌*◌, ◌+ℤ◌, ◌*ℤ◌, ◌≤ℤ◌, ◌<◌, ◌≡◌, ◌⊎◌, cond, List, [], ◌∷◌}
use Rattle.law_bounds.specs.linear_programs.Program.{Column, Program}

-- a column, told by its key, with its weight in units of 1 / q
pub record Weighted (K : Type 0) : Type 0 where
  pub weight : ℕ
  pub key : K

-- the sum of the weights times a number of each key
abbrev pub weighted_sum : {K : Type 0} → (K → ℤ) → List (Weighted K) → ℤ
weighted_sum f [] = pos 0
weighted_sum f (w ∷ ws) = pos w.weight *ℤ f w.key +ℤ weighted_sum f ws

-- what the weighted columns bring to row i, times q
abbrev pub brought : {K : Type 0} → (K → Column) → List (Weighted K) → ℕ → ℤ
brought column ws i = weighted_sum (λ k. (column k).entry i) ws

-- the cost of the weighted columns, times q
abbrev pub cost_of : {K : Type 0} → (K → Column) → List (Weighted K) → ℤ
cost_of column ws = weighted_sum (λ k. (column k).cost) ws

-- each weighted key has the property
abbrev pub Each : {K : Type 0} → (K → Type 0) → List (Weighted K) → Type 0
Each P [] = Unit {0}
Each P (w ∷ ws) = P w.key × Each P ws

-- a solution: columns of the set that meet the rows
pub record IsSolution {K : Type 0} (p : Program K) (ws : List (Weighted K)) (q : ℕ) : Type 0 where
  pub positive : 0 < q
  pub columns : Each p.belongs ws
  pub meets : (i : ℕ) → i < p.rows → brought p.column ws i ≡ pos q *ℤ p.right i

-- v / q is the least cost of the solutions
pub record IsValue {K : Type 0} (p : Program K) (v : ℤ) (q : ℕ) : Type 0 where
  pub positive : 0 < q
  pub reached : (ws : List (Weighted K)) × (d : ℕ) × IsSolution p ws d
      × (cost_of p.column ws *ℤ pos q ≡ v *ℤ pos d)
  pub least : (ws : List (Weighted K)) (d : ℕ) → IsSolution p ws d
      → (v *ℤ pos d) ≤ℤ (cost_of p.column ws *ℤ pos q)

-- no solution costs less than these weighted columns, whose weights are in units of 1 / q
abbrev pub CostsLeast : {K : Type 0} → Program K → List (Weighted K) → ℕ → Type 0
CostsLeast {K} p ws q =
    (vs : List (Weighted K)) (d : ℕ) → IsSolution p vs d
    → (cost_of p.column ws *ℤ pos d) ≤ℤ (cost_of p.column vs *ℤ pos q)

-- the two lists of weighted keys have the same sum of each number of the keys
abbrev pub HaveSameSums : {K : Type 0} → List (Weighted K) → List (Weighted K) → Type 0
HaveSameSums {K} ws vs = (f : K → ℤ) → weighted_sum f vs ≡ weighted_sum f ws

-- the key has a weight above 0
abbrev pub Uses : {K : Type 0} → List (Weighted K) → K → Type 0
Uses [] k = ⊥
Uses (w ∷ ws) k = ((w.key ≡ k) × (0 < w.weight)) ⊎ Uses ws k

-- the weight of the keys that pass a test
abbrev pub weight_where : {K : Type 0} → (K → Bool) → List (Weighted K) → ℕ
weight_where t [] = 0
weight_where t (w ∷ ws) = cond (t w.key) w.weight 0 + weight_where t ws

-- the weights of ws / q and of vs / d are the same: those of any choice of keys have equal sums
abbrev pub IsSameSolution : {K : Type 0} → List (Weighted K) → ℕ → List (Weighted K) → ℕ → Type 0
IsSameSolution {K} ws q vs d = (t : K → Bool) → d * weight_where t ws ≡ q * weight_where t vs

-- a basic solution: no other one has weights on the keys that it uses alone
pub record IsBasic {K : Type 0} (p : Program K) (ws : List (Weighted K)) (q : ℕ) : Type 0 where
  pub solution : IsSolution p ws q
  pub only : (vs : List (Weighted K)) (d : ℕ) → IsSolution p vs d → ((k : K) → Uses vs k → Uses ws k)
      → IsSameSolution ws q vs d
