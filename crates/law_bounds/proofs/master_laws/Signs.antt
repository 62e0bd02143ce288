-- The signs of the prices of cuts' rows.
use Rattle.std.proofs.Common.{ℕ, ℤ, ◌+◌, List, [], ◌∷◌, subst, suc}
use Rattle.model_rosters.specs.declared.instance.Cut.{Cut}
use Rattle.model_rosters.specs.declared.instance.Instance.{Instance}
use Rattle.model_rosters.specs.declared.instance.Side.{Side}
use Rattle.model_rosters.specs.declared.instance.Side.TheVariants.{Low, High}
use Rattle.model_rosters.specs.declared.grammar.ArcKey.{ArcKey}
use Rattle.model_rosters.specs.Folds.{Each}
use Rattle.law_bounds.specs.linear_programs.Program.{IsPricedOut}
use Rattle.law_bounds.specs.BestPrices.{artificial_cost}
use Rattle.law_bounds.specs.master_laws.Rows.{side_row, rows_of}
use Rattle.law_bounds.specs.master_laws.Master.{master}
use Rattle.law_bounds.specs.master_laws.Rounding.{cell_lines, first_head, numbers_from}
use Rattle.law_bounds.specs.master_laws.Laws.{HasSign, HaveSigns}
use Rattle.law_bounds.proofs.master_laws.RowSums.{RowPrice, IsGood, out_good}
use Rattle.law_bounds.proofs.master_laws.Lines.{at, cut_numbers, OfBuilt, of_built, priced_built}

sign_of : (k : ℕ) (kappa : ℤ) (s : Side) (b : ℕ) (a : ArcKey) (x : ℤ) → IsGood k kappa (at (side_row s b a) x) → HasSign s x
sign_of k kappa Low b a x h = h
sign_of k kappa High b a x h = h.0

signs_of : (k : ℕ) (kappa : ℤ) (y : ℕ → ℤ) (r : ℕ) (cuts : List Cut) → Each (IsGood k kappa) (cut_numbers cuts (numbers_from y r cuts)) → HaveSigns cuts (numbers_from y r cuts)
signs_of k kappa y r [] h = tt
signs_of k kappa y r (c ∷ cs) h = (sign_of k kappa c.side c.b c.arc (y r) h.0, signs_of k kappa y (suc r) cs h.1)

-- prices that leave no column a negative reduced cost, by cells, heads and cuts
pub built_good : (i : Instance) (cuts : List Cut) (y : ℕ → ℤ) (kappa : ℤ) → IsPricedOut (master i cuts) y kappa
    → OfBuilt (IsGood (artificial_cost i) kappa) i (cell_lines i y) (y (first_head i)) (y (first_head i + 1)) cuts (numbers_from y (first_head i + 2) cuts)
built_good i cuts y kappa out =
    of_built (IsGood (artificial_cost i) kappa) i (cell_lines i y) (y (first_head i)) (y (first_head i + 1)) cuts (numbers_from y (first_head i + 2) cuts)
    (subst (λ (xs : List RowPrice). Each (IsGood (artificial_cost i) kappa) xs) (priced_built y i cuts) (out_good i (rows_of i cuts) y kappa out))

pub cuts_signed : (i : Instance) (cuts : List Cut) (y : ℕ → ℤ) (kappa : ℤ) → IsPricedOut (master i cuts) y kappa → HaveSigns cuts (numbers_from y (first_head i + 2) cuts)
cuts_signed i cuts y kappa out = signs_of (artificial_cost i) kappa y (first_head i + 2) cuts (built_good i cuts y kappa out).numbered
