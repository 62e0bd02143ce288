-- Weak duality: prices with no negative reduced cost bound every solution from below.
use Rattle.std.proofs.Common.{◌≡◌, ℕ, ℤ, arith, pos, suc, zero, ◌*ℤ◌, ◌≤ℤ◌, sym, ap, ◌∙◌, List, [], ◌∷◌}
use Rattle.std.proofs.lemmas.Int.{ints}
use lib.IntN.{*ℤ_comm}
use Rattle.law_bounds.specs.linear_programs.Sums.{dot}
use Rattle.law_bounds.specs.linear_programs.Program.{Column, Program, reduced, IsPricedOut}
use Rattle.law_bounds.specs.linear_programs.Solution.{Weighted, Each, brought, cost_of, IsSolution}
use Rattle.law_bounds.proofs.linear_programs.Ring.{*ℤ-assoc, *ℤ-+ℤ}
use Rattle.law_bounds.proofs.linear_programs.Totals.{dot-add_right, dot-scale_right, dot-zero_right, dot-same_right}

-- a number that is not negative keeps an order
scale_le : (k : ℕ) (x y : ℤ) → x ≤ℤ y → (pos k *ℤ x) ≤ℤ (pos k *ℤ y)
scale_le zero x y h = omega (arith, ints)
scale_le (suc k) x y h = omega (arith, ints, scale_le k x y h)

-- a scalar moves past another
pub swapped : (k : ℕ) (kappa c : ℤ) → pos k *ℤ (kappa *ℤ c) ≡ kappa *ℤ (pos k *ℤ c)
swapped k kappa c = sym (*ℤ-assoc (pos k) kappa c) ∙ ap (λ (z : ℤ). z *ℤ c) (*ℤ_comm (pos k) kappa) ∙ *ℤ-assoc kappa (pos k) c

-- the prices of what columns with no negative reduced cost bring are at most their cost
price_le_cost : {K : Type 0} (column : K → Column) (m : ℕ) (y : ℕ → ℤ) (kappa : ℤ) (ws : List (Weighted K)) → Each (λ k. pos 0 ≤ℤ reduced m y kappa (column k)) ws → dot m y (brought column ws) ≤ℤ (kappa *ℤ cost_of column ws)
price_le_cost column m y kappa [] h = let z = dot-zero_right m y in omega (arith, ints)
price_le_cost column m y kappa (w ∷ ws) h =
    let rest = price_le_cost column m y kappa ws h.1 in
    let e1 = dot-add_right m y (λ i. pos w.weight *ℤ (column w.key).entry i) (brought column ws) in
    let e2 = dot-scale_right m (pos w.weight) y (column w.key).entry in
    let one : dot m y (column w.key).entry ≤ℤ (kappa *ℤ (column w.key).cost) = omega (arith, ints, h.0) in
    let more = scale_le w.weight _ _ one in
    let e3 = swapped w.weight kappa (column w.key).cost in
    let e4 = *ℤ-+ℤ kappa (pos w.weight *ℤ (column w.key).cost) (cost_of column ws) in
    omega (arith, ints)

-- what holds of each key of the set holds of each weighted key
pub each_of : {K : Type 0} {P Q : K → Type 0} → ((k : K) → P k → Q k) → (ws : List (Weighted K)) → Each P ws → Each Q ws
each_of f [] a = tt
each_of f (w ∷ ws) a = (f w.key a.0, each_of f ws a.1)

-- with no column of the set at a negative reduced cost, y * right bounds the cost of each solution
pub weak_duality : {K : Type 0} (p : Program K) (y : ℕ → ℤ) (kappa : ℤ) → IsPricedOut p y kappa → (ws : List (Weighted K)) (q : ℕ) → IsSolution p ws q → (pos q *ℤ dot p.rows y p.right) ≤ℤ (kappa *ℤ cost_of p.column ws)
weak_duality p y kappa h ws q s =
    let a = price_le_cost p.column p.rows y kappa ws (each_of h ws s.columns) in
    let b = dot-same_right p.rows y (brought p.column ws) (λ i. pos q *ℤ p.right i) s.meets ∙ dot-scale_right p.rows (pos q) y p.right in
    omega (arith, ints)
