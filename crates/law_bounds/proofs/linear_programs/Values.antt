-- Values as other fractions, solutions with the same sums, and what a tableau that is priced out costs.
use Rattle.std.proofs.Common.{◌≡◌, ℕ, ℤ, arith, pos, ◌+ℤ◌, ◌*ℤ◌, ◌≤ℤ◌, ◌<ℤ◌, ◌+◌, ◌<◌, Bool, true, false, cond, List, [], ◌∷◌, refl, sym, ap, ◌∙◌}
use Rattle.std.proofs.lemmas.Int.{ints}
use lib.IntN.{*ℤ_comm}
use Rattle.law_bounds.specs.linear_programs.Program.{Program, IsPricedOut, unit_vector}
use Rattle.law_bounds.specs.linear_programs.Sums.{dot}
use Rattle.law_bounds.specs.linear_programs.Solution.{Weighted, weighted_sum, cost_of, Each, IsSolution, IsValue, CostsLeast, Uses, weight_where, IsBasic}
use Rattle.law_bounds.specs.linear_programs.Tableau.{Tableau, on_basis, IsTableauSolution}
use Rattle.law_bounds.proofs.linear_programs.Duality.{weak_duality}
use Rattle.law_bounds.proofs.linear_programs.Orders.{times_swap, times_le, le_factor}
use Rattle.law_bounds.proofs.linear_programs.Ring.{*ℤ-assoc, same_factor}
use Rattle.law_bounds.proofs.linear_programs.Solutions.{solution_cost}
use Rattle.law_bounds.proofs.linear_programs.Start.{dot-unit}
use Rattle.law_bounds.proofs.linear_programs.TiedTableau.{IsTied}
use Rattle.law_bounds.proofs.linear_programs.Totals.{dot-comm}

-- ---- solutions with the same sums
module _ {K : Type 0} (p : Program K) (ws vs : List (Weighted K)) (sums : (f : K → ℤ) → weighted_sum f vs ≡ weighted_sum f ws) where
  pub same_solution : (q : ℕ) → Each p.belongs vs → IsSolution p ws q → IsSolution p vs q
  same_solution q belongs s = record { positive = s.positive; columns = belongs; meets = λ i h. sums (λ k. (p.column k).entry i) ∙ s.meets i h }

  pub same_least : (q : ℕ) → CostsLeast p ws q → CostsLeast p vs q
  same_least q least xs d s = let e = sums (λ k. (p.column k).cost) in let l = least xs d s in rw e l

  weight_sum : (t : K → Bool) (ws : List (Weighted K)) → weighted_sum (λ k. cond (t k) (pos 1) (pos 0)) ws ≡ pos (weight_where t ws)
  weight_sum t [] = refl
  weight_sum t (w ∷ ws) = by (t w.key) (weight_sum t ws)
    where
      by : (b : Bool) → weighted_sum (λ k. cond (t k) (pos 1) (pos 0)) ws ≡ pos (weight_where t ws) → pos w.weight *ℤ cond b (pos 1) (pos 0) +ℤ weighted_sum (λ k. cond (t k) (pos 1) (pos 0)) ws ≡ pos (cond b w.weight 0 + weight_where t ws)
      by true e = omega (arith, ints)
      by false e = omega (arith, ints)

  same_weight : (t : K → Bool) → weight_where t vs ≡ weight_where t ws
  same_weight t =
      let a = weight_sum t ws in
      let b = weight_sum t vs in
      let c = sums (λ k. cond (t k) (pos 1) (pos 0)) in
      let d : pos (weight_where t vs) ≡ pos (weight_where t ws) = sym b ∙ c ∙ a in
      omega (arith, ints, d)

  pub same_basic : (q : ℕ) → Each p.belongs vs → ((k : K) → Uses vs k → Uses ws k) → IsBasic p ws q → IsBasic p vs q
  same_basic q belongs used b = record {
    solution = same_solution q belongs b.solution;
    only = λ xs d s u t. let a = b.only xs d s (λ k h. used k (u k h)) t in let e = same_weight t in rw e a;
  }

-- ---- values
-- a value as another fraction
pub equal_value : {K : Type 0} (p : Program K) (v w : ℤ) (q r : ℕ) → 0 < q → w *ℤ pos q ≡ v *ℤ pos r → IsValue p w r → IsValue p v q
equal_value p v w q r some e value = record {
  positive = some;
  reached =
      let x = value.reached in
      (x.0, x.1, x.2, reach (cost_of p.column x.0) x.1 x.3);
  least = λ ws d s. below (cost_of p.column ws) d (value.least ws d s);
}
  where
    someq : pos 0 <ℤ pos q
    someq = omega (arith, ints)

    somer : pos 0 <ℤ pos r
    somer = let h = value.positive in omega (arith, ints)

    reach : (C : ℤ) (d : ℕ) → C *ℤ pos r ≡ w *ℤ pos d → C *ℤ pos q ≡ v *ℤ pos d
    reach C d h =
        same_factor (pos r) (C *ℤ pos q) (v *ℤ pos d) somer
        (*ℤ_comm (pos r) (C *ℤ pos q) ∙ times_swap C q r ∙ ap (λ (z : ℤ). z *ℤ pos q) h ∙ times_swap w d q ∙ ap (λ (z : ℤ). z *ℤ pos d) e ∙ times_swap v r d ∙ *ℤ_comm (v *ℤ pos d) (pos r))

    below : (C : ℤ) (d : ℕ) → (w *ℤ pos d) ≤ℤ (C *ℤ pos r) → (v *ℤ pos d) ≤ℤ (C *ℤ pos q)
    below C d h =
        let a = times_le (w *ℤ pos d) (C *ℤ pos r) q h in
        let b : (w *ℤ pos d) *ℤ pos q ≡ pos r *ℤ (v *ℤ pos d) = times_swap w d q ∙ ap (λ (z : ℤ). z *ℤ pos d) e ∙ times_swap v r d ∙ *ℤ_comm (v *ℤ pos d) (pos r) in
        let c : (C *ℤ pos r) *ℤ pos q ≡ pos r *ℤ (C *ℤ pos q) = times_swap C r q ∙ *ℤ_comm (C *ℤ pos q) (pos r) in
        le_factor (pos r) (v *ℤ pos d) (C *ℤ pos q) somer (omega (arith, ints))

-- ---- the solution of a tableau that is priced out
module _ {K : Type 0} (p : Program K) (t : Tableau K) (tie : IsTied p t) (out : IsPricedOut p t.y t.kappa) where
  least_at : (d : ℕ) (C : ℤ) → t.kappa *ℤ C ≡ pos d *ℤ t.value → (vs : List (Weighted K)) (c : ℕ) → IsSolution p vs c
      → pos 0 <ℤ t.kappa → t.value ≡ dot p.rows t.y p.right → (C *ℤ pos c) ≤ℤ (cost_of p.column vs *ℤ pos d)
  least_at d C e vs c x positive value =
      let a = weak_duality p t.y t.kappa out vs c x in
      let a' : (pos c *ℤ t.value) ≤ℤ (t.kappa *ℤ cost_of p.column vs) = rw value a in
      let b = times_le (pos c *ℤ t.value) (t.kappa *ℤ cost_of p.column vs) d a' in
      let f : (pos c *ℤ t.value) *ℤ pos d ≡ t.kappa *ℤ (C *ℤ pos c) =
      *ℤ_comm (pos c *ℤ t.value) (pos d) ∙ ap (λ (z : ℤ). pos d *ℤ z) (*ℤ_comm (pos c) t.value) ∙ sym (*ℤ-assoc (pos d) t.value (pos c)) ∙ ap (λ (z : ℤ). z *ℤ pos c) (sym e) ∙ *ℤ-assoc t.kappa C (pos c) in
      let g = *ℤ-assoc t.kappa (cost_of p.column vs) (pos d) in
      le_factor t.kappa (C *ℤ pos c) (cost_of p.column vs *ℤ pos d) positive (omega (arith, ints))

  pub tied_least : (w : ℕ → ℕ) (d : ℕ) → IsTableauSolution p t w d → CostsLeast p (on_basis t.basis w p.rows) d
  tied_least w d s = λ vs c x. least_at d (cost_of p.column (on_basis t.basis w p.rows)) (solution_cost p t tie w d s) vs c x tie.kappa tie.value

-- a vector times a unit vector is the number at its place
pub dot_unit : (n r : ℕ) (y : ℕ → ℤ) → r < n → dot n y (unit_vector r) ≡ y r
dot_unit n r y h = dot-comm n y (unit_vector r) ∙ dot-unit n r y h
