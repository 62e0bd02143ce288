-- The end of a pivot path of a master.
use Rattle.std.proofs.Common.{◌≡◌, ℕ, ℤ, zero, suc, arith, pos, ◌+ℤ◌, ◌*ℤ◌, ◌≤ℤ◌, ◌<ℤ◌, ◌+◌, ◌<◌, unsigned_abs, Bool, true, false, cond, List, [], ◌∷◌, ◌++◌, refl, sym, ap, ◌∙◌, ◌⊎◌, inl, inr}
use Rattle.std.proofs.lemmas.Int.{ints}
use lib.IntN.{*ℤ_comm}
use Rattle.model_rosters.specs.declared.instance.Cut.{Cut}
use Rattle.model_rosters.specs.declared.instance.Instance.{Instance}
use Rattle.law_bounds.specs.linear_programs.Program.{Program, IsPricedOut}
use Rattle.law_bounds.specs.linear_programs.Sums.{dot}
use Rattle.law_bounds.specs.linear_programs.Solution.{Weighted, weighted_sum, cost_of, Each, IsSolution, IsValue, Uses, IsBasic, CostsLeast}
use Rattle.law_bounds.specs.linear_programs.Tableau.{Tableau, PivotPath, on_basis, IsTableauSolution}
use Rattle.law_bounds.proofs.linear_programs.Values.{same_least, same_basic, equal_value, tied_least}
use Rattle.law_bounds.proofs.linear_programs.Paths.{path_tied}
use Rattle.law_bounds.proofs.linear_programs.Solutions.{natural, tied_value, tied_basic}
use Rattle.law_bounds.specs.master_laws.Rows.{rows_of}
use Rattle.law_bounds.specs.master_laws.Master.{MasterKey, missing, beyond, tree, master}
use Rattle.law_bounds.specs.master_laws.Ends.{tree_first, tree_weights, other_first, other_weights, IsPathEnd}
use Rattle.law_bounds.proofs.master_laws.RowSums.{master_sound}

-- ---- trees first
pub sum_append : {K : Type 0} (f : K → ℤ) (xs ys : List (Weighted K)) → weighted_sum f (xs ++ ys) ≡ weighted_sum f xs +ℤ weighted_sum f ys
sum_append f [] ys = omega (arith, ints)
sum_append f (x ∷ xs) ys = omega (arith, ints, sum_append f xs ys)

pub each_append : {K : Type 0} (P : K → Type 0) (xs ys : List (Weighted K)) → Each P xs → Each P ys → Each P (xs ++ ys)
each_append P [] ys h k = k
each_append P (x ∷ xs) ys h k = (h.0, each_append P xs ys h.1 k)

uses_append : {K : Type 0} (xs ys : List (Weighted K)) (k : K) → Uses (xs ++ ys) k → Uses xs k ⊎ Uses ys k
uses_append [] ys k h = inr h
uses_append (x ∷ xs) ys k (inl h) = inl (inl h)
uses_append (x ∷ xs) ys k (inr h) = by (uses_append xs ys k h)
  where
    by : Uses xs k ⊎ Uses ys k → Uses (x ∷ xs) k ⊎ Uses ys k
    by (inl u) = inl (inr u)
    by (inr u) = inr u

sorted_sum : (f : MasterKey → ℤ) (ws : List (Weighted MasterKey)) → weighted_sum f (tree_weights ws) +ℤ weighted_sum f (other_weights ws) ≡ weighted_sum f ws
sorted_sum f [] = refl
sorted_sum f (w ∷ ws) = by w.key w.weight (sorted_sum f ws)
  where
    by : (k : MasterKey) (n : ℕ) → weighted_sum f (tree_weights ws) +ℤ weighted_sum f (other_weights ws) ≡ weighted_sum f ws
        → weighted_sum f (tree_first k n (tree_weights ws)) +ℤ weighted_sum f (other_first k n (other_weights ws)) ≡ pos n *ℤ f k +ℤ weighted_sum f ws
    by (missing r) n e = omega (arith, ints)
    by (beyond r) n e = omega (arith, ints)
    by (tree t) zero e = omega (arith, ints)
    by (tree t) (suc n) e = omega (arith, ints)

sorted_each : (P : MasterKey → Type 0) (ws : List (Weighted MasterKey)) → Each P ws → Each P (tree_weights ws) × Each P (other_weights ws)
sorted_each P [] h = (tt, tt)
sorted_each P (w ∷ ws) h = by w.key w.weight h.0 (sorted_each P ws h.1)
  where
    by : (k : MasterKey) (n : ℕ) → P k → Each P (tree_weights ws) × Each P (other_weights ws) → Each P (tree_first k n (tree_weights ws)) × Each P (other_first k n (other_weights ws))
    by (missing r) n p e = (e.0, (p, e.1))
    by (beyond r) n p e = (e.0, (p, e.1))
    by (tree t) zero p e = e
    by (tree t) (suc n) p e = ((p, e.0), e.1)

sorted_uses : (ws : List (Weighted MasterKey)) (k : MasterKey) → Uses (tree_weights ws) k ⊎ Uses (other_weights ws) k → Uses ws k
sorted_uses [] k (inl h) = absurd h
sorted_uses [] k (inr h) = absurd h
sorted_uses (w ∷ ws) k h = by (λ u. sorted_uses ws k u) w.key w.weight refl refl h
  where
    by : (Uses (tree_weights ws) k ⊎ Uses (other_weights ws) k → Uses ws k) → (key : MasterKey) (n : ℕ) → w.key ≡ key → w.weight ≡ n → Uses (tree_first key n (tree_weights ws)) k ⊎ Uses (other_first key n (other_weights ws)) k → Uses (w ∷ ws) k
    by rec (missing r) n e m (inl u) = inr (rec (inl u))
    by rec (missing r) n e m (inr (inl u)) = inl (e ∙ u.0, omega (arith, u.1))
    by rec (missing r) n e m (inr (inr u)) = inr (rec (inr u))
    by rec (beyond r) n e m (inl u) = inr (rec (inl u))
    by rec (beyond r) n e m (inr (inl u)) = inl (e ∙ u.0, omega (arith, u.1))
    by rec (beyond r) n e m (inr (inr u)) = inr (rec (inr u))
    by rec (tree t) zero e m u = inr (rec u)
    by rec (tree t) (suc n) e m (inl (inl u)) = inl (e ∙ u.0, omega (arith, u.1))
    by rec (tree t) (suc n) e m (inl (inr u)) = inr (rec (inl u))
    by rec (tree t) (suc n) e m (inr u) = inr (rec (inr u))

pub weights_apart : (i : Instance) (cuts : List Cut) (ws : List (Weighted MasterKey)) (q : ℕ) → IsBasic (master i cuts) ws q → CostsLeast (master i cuts) ws q
    → IsBasic (master i cuts) (tree_weights ws ++ other_weights ws) q × CostsLeast (master i cuts) (tree_weights ws ++ other_weights ws) q
weights_apart i cuts ws q basic least =
    let sums : (f : MasterKey → ℤ) → weighted_sum f (tree_weights ws ++ other_weights ws) ≡ weighted_sum f ws = λ f. sum_append f (tree_weights ws) (other_weights ws) ∙ sorted_sum f ws in
    let e = sorted_each (master i cuts).belongs ws basic.solution.columns in (
      same_basic (master i cuts) ws (tree_weights ws ++ other_weights ws) sums q (each_append (master i cuts).belongs (tree_weights ws) (other_weights ws) e.0 e.1)
          (λ k u. sorted_uses ws k (uses_append (tree_weights ws) (other_weights ws) k u)) basic,
      same_least (master i cuts) ws (tree_weights ws ++ other_weights ws) sums q least,
    )

-- ---- the end
module _ (i : Instance) (cuts : List Cut) (n : ℕ) (t : Tableau MasterKey) (path : PivotPath (master i cuts) n t) (out : IsPricedOut (master i cuts) t.y t.kappa) where
  pub path_end : (v : ℤ) (q : ℕ) → 0 < q → v *ℤ t.kappa ≡ t.value *ℤ pos q → IsPathEnd i cuts t v q
  path_end v q some e =
      let tie = path_tied (master i cuts) (master_sound i (rows_of i cuts)) n t path in
      let k : pos (unsigned_abs t.kappa) ≡ t.kappa = natural t.kappa (let h = tie.kappa in omega (arith, ints)) in
      record {
        prices = record { positive = tie.kappa; priced = out; value = *ℤ_comm t.kappa v ∙ e ∙ ap (λ (z : ℤ). z *ℤ pos q) tie.value };
        value = equal_value (master i cuts) v t.value q (unsigned_abs t.kappa) some (rw k (sym e)) (tied_value (master i cuts) t tie out);
        basic = λ w d s. tied_basic (master i cuts) t tie w d s;
        least = λ w d s. tied_least (master i cuts) t tie out w d s;
      }
