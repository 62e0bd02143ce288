-- The prices of cells from those of their rows.
use Rattle.std.proofs.Common.{◌≡◌, ℕ, ℤ, zero, suc, arith, pos, ◌+ℤ◌, ◌+◌, ◌<◌, ◌≤◌, Bool, true, false, cond, Some, None, IfSome, List, [], ◌∷◌, ◌++◌, length, get_or, drop, All, sym, ap, ◌∙◌, refl, drop-cons, add-one}
use Rattle.std.proofs.lemmas.List.{ext_get_or, drop_all}
use Rattle.std.proofs.lemmas.List.Elements.{All-cons, All-nil}
use Rattle.model_rosters.specs.declared.instance.Cell.{Cell}
use Rattle.model_rosters.specs.declared.instance.Cut.{Cut}
use Rattle.model_rosters.specs.declared.instance.Instance.{Instance}
use Rattle.lp_fractions.specs.Row.{at}
use Rattle.law_bounds.specs.master_laws.Rows.{rows_of, floor_rows, ceiling_rows, has_floor, has_ceiling, floor_row, ceiling_row}
use Rattle.law_bounds.specs.master_laws.Rounding.{lines_from, line_sums, cell_lines, first_ceiling, first_head, numbers_from}
use Rattle.law_bounds.proofs.master_laws.RowSizes.{row_count}
use Rattle.law_bounds.proofs.master_laws.WideNumbers.{one_length}
use Rattle.lp_master_rows.specs.declared.rows.BoundRows.{BoundRows}
use Rattle.lp_master_rows.specs.declared.rows.NodeRows.{NodeRows}
use Rattle.lp_master_rows.specs.NodeRows.{bounds_from, price_in, prices_from, IsBelow, AreRows}

-- ---- prices by cells
pub prices_length : (y : ℕ → ℤ) (j : ℕ) (bs : List BoundRows) → length (prices_from y j bs) ≡ length bs
prices_length y j [] = refl
prices_length y j (b ∷ bs) = ap suc (prices_length y (suc j) bs)

prices_at : (y : ℕ → ℤ) (j : ℕ) (bs : List BoundRows) (k : ℕ) (d : BoundRows) → k < length bs
    → get_or (prices_from y j bs) k (pos 0) ≡ y (j + k) +ℤ price_in y (get_or bs k d).floor +ℤ price_in y (get_or bs k d).ceiling
prices_at y j [] k d l = absurd (omega arith)
prices_at y j (b ∷ bs) zero d l = let e : j + 0 ≡ j = omega arith in rw e refl
prices_at y j (b ∷ bs) (suc k) d l = let e : j + suc k ≡ suc j + k = omega arith in rw e (prices_at y (suc j) bs k d (omega arith))

pub price_here : (y : ℕ → ℤ) (bs : List BoundRows) (k : ℕ) (d : BoundRows) (z : ℤ) → k < length bs
    → z ≡ y k +ℤ price_in y (get_or bs k d).floor +ℤ price_in y (get_or bs k d).ceiling → z ≡ get_or (prices_from y 0 bs) k (pos 0)
price_here y bs k d z l e = let n : 0 + k ≡ k = omega arith in e ∙ sym (rw n at (prices_at y 0 bs k d l))

pub all_here : (y : ℕ → ℤ) (bs : List BoundRows) (out : List ℤ) → length out ≡ length bs → ((k : ℕ) → k < length bs → get_or out k (pos 0) ≡ get_or (prices_from y 0 bs) k (pos 0)) → out ≡ prices_from y 0 bs
all_here y bs out n h = ext_get_or (pos 0) out (prices_from y 0 bs) (n ∙ sym (prices_length y 0 bs)) (λ k l. h k (omega (arith, n)))

-- ---- they are the sums of the cells' lines
picked : (y : ℕ → ℤ) (b : Bool) (r : ℕ) → price_in y (cond b (Some r) None) ≡ cond b (y r) (pos 0)
picked y true r = refl
picked y false r = refl

pub sums_are : (y : ℕ → ℤ) (j f e : ℕ) (cs : List Cell) → prices_from y j (bounds_from f e cs) ≡ line_sums (lines_from y j f e cs)
sums_are y j f e [] = refl
sums_are y j f e (c ∷ cs) =
    rw (picked y (has_floor c) f, picked y (has_ceiling c) e, sums_are y (suc j) (f + cond (has_floor c) 1 0) (e + cond (has_ceiling c) 1 0) cs) refl

one_below : (b : Bool) (r m n : ℕ) → r + (cond b 1 0 + m) ≤ n → IfSome (cond b (Some r) None) (λ k. k < n)
one_below true r m n h = omega arith
one_below false r m n h = tt

pub bounds_below : (f e n : ℕ) (cs : List Cell) → f + length (floor_rows cs) ≤ n → e + length (ceiling_rows cs) ≤ n → All (IsBelow n) (bounds_from f e cs)
bounds_below f e n [] h k = All-nil (IsBelow n)
bounds_below f e n (c ∷ cs) h k =
    let p = one_length (has_floor c) (floor_row c) (floor_rows cs) in
    let q = one_length (has_ceiling c) (ceiling_row c) (ceiling_rows cs) in
    All-cons (IsBelow n) _ _
    (record { floor = one_below (has_floor c) f (length (floor_rows cs)) n (omega arith); ceiling = one_below (has_ceiling c) e (length (ceiling_rows cs)) n (omega arith) })
    (bounds_below (f + cond (has_floor c) 1 0) (e + cond (has_ceiling c) 1 0) n cs (omega arith) (omega arith))

pub bounds_length : (f e : ℕ) (cs : List Cell) → length (bounds_from f e cs) ≡ length cs
bounds_length f e [] = refl
bounds_length f e (c ∷ cs) = ap suc (bounds_length (f + cond (has_floor c) 1 0) (e + cond (has_ceiling c) 1 0) cs)

-- ---- the prices of the heads and of the cuts
pub drop_numbers : (y : List ℤ) (r : ℕ) (cuts : List Cut) → length y ≡ r + length cuts → drop r y ≡ numbers_from (at y) r cuts
drop_numbers y r [] h = drop_all r y (omega arith)
drop_numbers y r (c ∷ cs) h = drop-cons y r (pos 0) (omega arith) ∙ ap (λ (zs : List ℤ). get_or y r (pos 0) ∷ zs) (drop_numbers y (suc r) cs (omega arith))

pub drop_heads : (y : List ℤ) (r : ℕ) (cuts : List Cut) → length y ≡ r + 2 + length cuts → drop r y ≡ at y r ∷ at y (r + 1) ∷ numbers_from (at y) (r + 2) cuts
drop_heads y r cuts h =
    let e : suc (suc r) ≡ r + 2 = omega arith in
    drop-cons y r (pos 0) (omega arith)
    ∙ ap (λ (zs : List ℤ). get_or y r (pos 0) ∷ zs) (rw (add-one r) (drop-cons y (suc r) (pos 0) (omega arith) ∙ ap (λ (zs : List ℤ). get_or y (suc r) (pos 0) ∷ zs) (rw e (drop_numbers y (r + 2) cuts (omega arith)))))

-- ---- of the rows of a node
module _ (i : Instance) (cuts : List Cut) (rows : NodeRows) (are : AreRows i cuts rows) where
  pub many : length rows.bounds ≡ length i.cells
  many = ap length are.bounds ∙ bounds_length (length i.cells) (first_ceiling i) i.cells

  pub low : (n : ℕ) → n ≡ length (rows_of i cuts) → All (IsBelow n) rows.bounds
  low n e = rw are.bounds (bounds_below (length i.cells) (first_ceiling i) n i.cells (omega (arith, e, row_count i cuts)) (omega (arith, e, row_count i cuts)))

  pub gathered : (y : List ℤ) → length y ≡ length (rows_of i cuts)
      → prices_from (at y) 0 rows.bounds ++ drop (first_head i) y ≡ line_sums (cell_lines i (at y)) ++ at y (first_head i) ∷ at y (first_head i + 1) ∷ numbers_from (at y) (first_head i + 2) cuts
  gathered y n =
      rw (are.bounds, sums_are (at y) 0 (length i.cells) (first_ceiling i) i.cells, drop_heads y (first_head i) cuts (omega (arith, n, row_count i cuts))) refl

  pub head_low : first_head i + 2 + length cuts ≡ length (rows_of i cuts)
  head_low = sym (row_count i cuts)
