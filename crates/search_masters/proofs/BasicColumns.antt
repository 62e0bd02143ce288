-- No column is basic twice at the end of a pivot path.
use Rattle.std.proofs.Common.{◌≡◌, ◌≢◌, ℕ, zero, suc, arith, pos, ◌<◌, ◌≤◌, ap, ◌∙◌}
use Rattle.std.proofs.lemmas.Int.{ints}
use Rattle.model_rosters.specs.Folds.{Each}
use Rattle.law_bounds.specs.linear_programs.Program.{Program}
use Rattle.law_bounds.specs.linear_programs.Solution.{Weighted}
use Rattle.law_bounds.specs.linear_programs.Tableau.{Tableau, entry, on_basis}
use Rattle.law_bounds.proofs.linear_programs.TiedTableau.{IsTied}
use Rattle.law_bounds.specs.master_laws.Master.{MasterKey}
use Rattle.search_node_columns.specs.Weights.{KeysStandOnce}

module _ (p : Program MasterKey) (t : Tableau MasterKey) (tied : IsTied p t) (weight : ℕ → ℕ) where
  -- the basic columns of two rows are two
  two : (r s : ℕ) → r < p.rows → s < p.rows → r ≢ s → t.basis r ≢ t.basis s
  two r s h k ne = λ e.
      let none : entry p.rows t r (p.column (t.basis r)) ≡ pos 0 = ap (λ (b : MasterKey). entry p.rows t r (p.column b)) e ∙ tied.apart r s h k ne in
      let some = tied.diagonal r h in
      absurd (omega (arith, ints))

  others : (n m : ℕ) → m ≤ n → n < p.rows → Each (λ (v : Weighted MasterKey). v.key ≢ t.basis n) (on_basis t.basis weight m)
  others n zero l h = tt
  others n (suc m) l h = (two m n (omega arith) h (λ e. absurd (omega (arith, e))), others n m (omega arith) h)

  pub basis_once : (n : ℕ) → n ≤ p.rows → KeysStandOnce (on_basis t.basis weight n)
  basis_once zero l = tt
  basis_once (suc n) l = (others n n (omega arith) (omega arith), basis_once n (omega arith))
