-- The end of a path over lists.
use Rattle.std.proofs.Common.{◌≡◌, ℕ, ℤ, zero, suc, ◌+◌, ◌<◌, ◌≤◌, arith, pos, ◌*ℤ◌, ◌<ℤ◌, List, [], ◌∷◌, ◌++◌, length, refl, sym, ap, subst, ◌∙◌, append_assoc, append-nil}
use Rattle.std.specs.Prelude.{slice_index}
use lib.IntN.{*ℤ_comm}
use Rattle.law_bounds.specs.linear_programs.Program.{Program, IsSound}
use Rattle.law_bounds.specs.linear_programs.Tableau.{entry, on_basis, IsTableauSolution}
use Rattle.law_bounds.proofs.linear_programs.Ring.{*ℤ-assoc, same_factor}
use Rattle.law_bounds.proofs.linear_programs.TiedTableau.{IsTied}
use Rattle.law_bounds.proofs.linear_programs.Solutions.{tableau_solution}
use Rattle.lp_fractions.specs.Row.{at}
use Rattle.lp_fractions.specs.declared.frac.Frac.{Frac}
use Rattle.lp_tableaus.specs.declared.simplex.Basic.{Basic}
use Rattle.lp_tableaus.specs.Lines.{row_at}
use Rattle.lp_tableaus.specs.Sheet.{tableau_of}
use Rattle.lp_tableaus.specs.Running.{IsPriced}
use Rattle.lp_tableaus.specs.Finish.{IsShare, AreShares}
use Rattle.lp_tableaus.specs.Ends.{IsLpEnd, AreBasicWeights}
use Rattle.lp_tableaus.proofs.Ends.{path_prices}
use Rattle.lp_tableaus.proofs.EnteringColumns.{tied_of, same_reduced}
use Rattle.lp_tableaus.proofs.Starts.{narrow_at, at_narrow}
use Rattle.lp_tableaus.proofs.Ratios.{turned}

-- one more row's share behind the others
pub share_more : (m : ℕ) (rows : List (List ℤ)) (e : ℕ → ℕ → ℤ) (basis : List ℕ) (list : List Basic) (b : Basic) (k n : ℕ) → k ≡ suc n → IsShare m (row_at rows n) (e n) (slice_index basis n) b
    → ((bs : List Basic) → AreShares m rows e basis bs k → AreShares m rows e basis (list ++ bs) m) → (bs : List Basic) → AreShares m rows e basis bs n → AreShares m rows e basis ((list ++ b ∷ []) ++ bs) m
share_more m rows e basis list b k n same share before bs rest =
    let step : AreShares m rows e basis (b ∷ bs) (suc n) = (share, rest) in
    rw append_assoc (before (b ∷ bs) (subst (λ (j : ℕ). AreShares m rows e basis (b ∷ bs) j) (sym same) step))

pub share_all : (m : ℕ) (rows : List (List ℤ)) (e : ℕ → ℕ → ℤ) (basis : List ℕ) (list : List Basic) (k : ℕ) → k ≡ zero → ((bs : List Basic) → AreShares m rows e basis bs k → AreShares m rows e basis (list ++ bs) m) → AreShares m rows e basis list m
share_all m rows e basis list k none before =
    let nothing : AreShares m rows e basis [] zero = tt in
    rw append-nil at (before [] (subst (λ (j : ℕ). AreShares m rows e basis [] j) (sym none) nothing))

-- a quotient as a weight
as_weight : (e num den right w d : ℤ) → pos 0 <ℤ e → num *ℤ e ≡ right *ℤ den → w *ℤ e ≡ d *ℤ right → num *ℤ d ≡ w *ℤ den
as_weight e num den right w d positive h k =
    same_factor e (num *ℤ d) (w *ℤ den) positive
    (turned e num d ∙ ap (λ (z : ℤ). d *ℤ z) h ∙ sym (*ℤ-assoc d right den) ∙ ap (λ (z : ℤ). z *ℤ den) (sym k) ∙ ap (λ (z : ℤ). z *ℤ den) (*ℤ_comm w e) ∙ *ℤ-assoc e w den)

module _ {K : Type 0} (p : Program K) (Lists : ℕ → K → Type 0) (rows : List (List ℤ)) (cost : List ℤ) (basis : List ℕ) (keys : ℕ → K)
    (tied : IsTied p (tableau_of p.rows keys rows cost)) (listed : (r : ℕ) → r < p.rows → Lists (slice_index basis r) (keys r)) (w : ℕ → ℕ) (d : ℕ) (s : IsTableauSolution p (tableau_of p.rows keys rows cost) w d) where
  share_weights : (list : List Basic) (n : ℕ) → n ≤ p.rows → AreShares p.rows rows (λ r. (p.column (keys r)).entry) basis list n → AreBasicWeights Lists d list (on_basis keys w n)
  share_weights [] zero h a = tt
  share_weights [] (suc n) h a = absurd a
  share_weights (b ∷ bs) zero h a = absurd a
  share_weights (b ∷ bs) (suc n) h a = (
    record {
      column = rw a.0.number (listed n (omega arith));
      share = as_weight (entry p.rows (tableau_of p.rows keys rows cost) n (p.column (keys n))) b.x.num b.x.den (at (row_at rows n) p.rows) (pos (w n)) (pos d) (tied.diagonal n (omega arith)) a.0.share (s.weights n (omega arith));
    },
    share_weights bs n (omega arith) a.1,
  )

-- the end
pub end_of : {K : Type 0} (p : Program K) (Lists : ℕ → K → Type 0) (rows : List (List ℤ)) (cost : List ℤ) (basis : List ℕ) (prices : List ℤ) → IsSound p → (o : IsPriced p Lists rows cost basis prices)
    → (basic : List Basic) (kappa : ℤ) (value : Frac) → AreShares p.rows rows (λ r. (p.column (o.path.keys r)).entry) basis basic p.rows → kappa ≡ at cost (p.rows + 1) → value.num *ℤ kappa ≡ at cost p.rows *ℤ value.den → IsLpEnd p Lists basic prices kappa value
end_of p Lists rows cost basis prices sound o basic kappa value shares scale worth =
    let tied = tied_of p Lists rows cost basis o.steps sound o.path in
    let s = tableau_solution p (tableau_of p.rows o.path.keys rows cost) tied in
    let inside : p.rows + 1 < length cost = let l = o.sheet.prices.long in omega arith in
    record {
      steps = o.steps;
      tableau = record (tableau_of p.rows o.path.keys rows cost) { y = at prices };
      path = path_prices p o.steps (tableau_of p.rows o.path.keys rows cost) (at prices) (λ i h. sym (o.copied i h)) o.path.path;
      long = o.long;
      prices = refl;
      scale = sym scale;
      narrow = (
        narrow_at prices (λ r h. let q : r < p.rows = let l = o.long in omega arith in let c : r < length cost = omega arith in rw (o.copied r q) (at_narrow cost r o.sheet.prices.narrow c)),
        rw scale (at_narrow cost (p.rows + 1) o.sheet.prices.narrow inside),
      );
      out = λ k b. rw (same_reduced p.rows prices cost (at cost (p.rows + 1)) (p.column k) o.copied) (o.out k b);
      worth = rw scale at worth;
      weight = s.0;
      d = s.1;
      solution = record { positive = s.2.positive; weights = s.2.weights };
      weights = share_weights p Lists rows cost basis o.path.keys tied o.path.listed s.0 s.1 s.2 basic p.rows (omega arith) shares;
    }
