-- What one step of elimination does to the sums that a row makes.
use Rattle.std.proofs.Common.{◌≡◌, ℕ, ℤ, ◌<◌, arith, pos, suc, zero, ◌+ℤ◌, ◌-ℤ◌, ◌*ℤ◌, ◌<ℤ◌, ap, ◌∙◌}
use Rattle.std.proofs.lemmas.Int.{ints}
use Rattle.law_bounds.specs.linear_programs.Sums.{dot}
use Rattle.law_bounds.specs.linear_programs.RowStep.{IsRowStep}
use Rattle.law_bounds.proofs.linear_programs.Ring.{spread, gather}

-- the factor that is taken out is above 0
pub factor_positive : {n : ℕ} {p : ℤ} {row : ℕ → ℤ} {a : ℤ} {other left : ℕ → ℤ} {g : ℤ} → IsRowStep n p row a other left g → pos 0 <ℤ g
factor_positive s = let e = s.factor.2 in omega (arith, ints)

-- a row step acts in the same way on the entry of each column
pub step_dot : (m : ℕ) (g p a : ℤ) (r t u c : ℕ → ℤ) → ((i : ℕ) → i < m → g *ℤ u i ≡ p *ℤ r i -ℤ a *ℤ t i) → g *ℤ dot m u c ≡ p *ℤ dot m r c -ℤ a *ℤ dot m t c
step_dot zero g p a r t u c h = omega (arith, ints)
step_dot (suc m) g p a r t u c h =
    let rest = step_dot m g p a r t u c (λ i b. h i (omega arith)) in
    let here = h m (omega arith) in
    spread g (dot m u c) (u m) (c m) ∙ ap (λ (z : ℤ). z +ℤ (g *ℤ u m) *ℤ c m) rest ∙ ap (λ (z : ℤ). (p *ℤ dot m r c -ℤ a *ℤ dot m t c) +ℤ z *ℤ c m) here ∙ gather p a (dot m r c) (dot m t c) (r m) (t m) (c m)
