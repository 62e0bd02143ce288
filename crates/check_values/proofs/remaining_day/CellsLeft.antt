-- A cell of the day, and what remains of it.
use Rattle.std.proofs.Common.{◌≡◌, ℕ, arith, ◌+◌, ◌-◌, ◌*◌, ◌≤◌, Bool, true, false, cond, List, refl, ap, ◌∙◌, ◌⊎◌, inl, inr}
use Rattle.std.specs.Prelude.{nat_eq, ◌≢◌}
use Rattle.std.proofs.Math.Nat.{mul-add}
use Rattle.std.proofs.lemmas.Bool.Decides.{eqb_tells}
use Rattle.model_rosters.specs.declared.grammar.Grammar.{Grammar}
use Rattle.model_rosters.specs.declared.instance.Cell.{Cell}
use Rattle.model_rosters.specs.Coverage.{covered, penalty, overstaffing, IsWithinCell}
use Rattle.model_rosters.specs.Duties.{Duty}
use Rattle.check_values.specs.remaining_day.Remaining.{ceiling_left, cell_left}

-- what is missing of n, and what is beyond, where k are there and x come
split_count : (under over n k x : ℕ) → under * (n - (k + x)) + over * ((k + x) - n) ≡ (under * ((n - k) - x) + over * (x - (n - k))) + over * (k - n)
split_count under over n k x =
    let missing : n - (k + x) ≡ (n - k) - x = omega arith in
    let beyond : (k + x) - n ≡ (x - (n - k)) + (k - n) = omega arith in
    let first : under * (n - (k + x)) ≡ under * ((n - k) - x) = ap (λ (m : ℕ). under * m) missing in
    let second : over * ((k + x) - n) ≡ over * (x - (n - k)) + over * (k - n) = ap (λ (m : ℕ). over * m) beyond ∙ mul-add over (x - (n - k)) (k - n) in
    omega (arith, first, second)

-- the ceiling that is left bounds those who come
ceiling_up : (ceiling k x : ℕ) → k ≤ ceiling → k + x ≤ 64 → x ≤ ceiling_left ceiling k → k + x ≤ ceiling
ceiling_up ceiling k x fits few h = by (nat_eq ceiling 64) (eqb_tells ceiling 64) h
  where
    by : (b : Bool) → ((nat_eq ceiling 64 ≡ true) × (ceiling ≡ 64)) ⊎ ((nat_eq ceiling 64 ≡ false) × (ceiling ≢ 64)) → x ≤ cond (nat_eq ceiling 64) 64 (ceiling - k) → k + x ≤ ceiling
    by b (inl p) h = omega (arith, p.1, few)
    by b (inr p) h = let q : x ≤ ceiling - k = rw p.0 at h in omega (arith, q, fits)

ceiling_down : (ceiling k x : ℕ) → k + x ≤ ceiling → x ≤ ceiling_left ceiling k
ceiling_down ceiling k x h = by (eqb_tells ceiling 64)
  where
    by : ((nat_eq ceiling 64 ≡ true) × (ceiling ≡ 64)) ⊎ ((nat_eq ceiling 64 ≡ false) × (ceiling ≢ 64)) → x ≤ cond (nat_eq ceiling 64) 64 (ceiling - k)
    by (inl p) = rw p.0 (omega (arith, p.1, h))
    by (inr p) = rw p.0 (omega (arith, h))

module _ (g : Grammar) (kept : List Duty) (c : Cell) (x : ℕ) where
  pub penalty_left : penalty c (covered g c kept + x) ≡ penalty (cell_left g kept c) x + c.over * overstaffing c (covered g c kept)
  penalty_left = split_count c.under c.over c.need (covered g c kept) x

  pub within_whole : covered g c kept ≤ c.ceiling → covered g c kept + x ≤ 64 → IsWithinCell (cell_left g kept c) x → IsWithinCell c (covered g c kept + x)
  within_whole fits few h = record {
    floor = omega (arith, h.floor);
    ceiling = ceiling_up c.ceiling (covered g c kept) x fits few h.ceiling;
  }

  pub within_rest : IsWithinCell c (covered g c kept + x) → IsWithinCell (cell_left g kept c) x
  within_rest h = record {
    floor = omega (arith, h.floor);
    ceiling = ceiling_down c.ceiling (covered g c kept) x h.ceiling;
  }
