-- The rows' prices by cells and cuts.
use Rattle.std.proofs.Common.{◌≡◌, ℕ, ℤ, zero, suc, arith, pos, ◌+ℤ◌, ◌+◌, ◌<◌, ◌≤◌, ◌^◌, unsigned_abs, ◌⊎◌, inl, inr, Bool, true, false, cond, List, [], ◌∷◌, ◌++◌, All, length, drop, take, refl, ap, ◌∙◌, subst, slice_index_or}
use Rattle.std.proofs.lemmas.Int.{ints}
use Rattle.std.proofs.lemmas.List.Elements.{All-nil, All-cons}
use Rattle.std.proofs.Math.Seq.{drop-append_seam, take-append_seam}
use Rattle.model_rosters.specs.declared.instance.Cell.{Cell}
use Rattle.model_rosters.specs.declared.instance.Cut.{Cut}
use Rattle.model_rosters.specs.declared.instance.Instance.{Instance}
use Rattle.model_rosters.specs.PriceLimits.{AreWide}
use Rattle.model_rosters.specs.Sums.{Within}
use Rattle.lp_fractions.specs.Row.{at}
use Rattle.law_bounds.specs.master_laws.Rows.{rows_of, has_floor, has_ceiling}
use Rattle.law_bounds.specs.master_laws.Rounding.{CellLine, lines_from, cell_lines, line_sum, line_sums, first_ceiling, first_head, numbers_from}
use Rattle.law_bounds.proofs.master_laws.RowSizes.{row_count}

-- a number at a place, or 0 behind the end
pub at_narrow : (y : List ℤ) → All (λ (z : ℤ). unsigned_abs z ≤ 2 ^ 56) y → (r : ℕ) → unsigned_abs (at y r) ≤ 2 ^ 56
at_narrow y h r = by (split r (length y))
  where
    split : (r n : ℕ) → (r < n) ⊎ (n ≤ r)
    split r n = grind arith

    by : (r < length y) ⊎ (length y ≤ r) → unsigned_abs (at y r) ≤ 2 ^ 56
    by (inl l) = h r (pos 0) l
    by (inr l) = let e = past y r (pos 0) l in rw e (omega arith)
      where
        past : (xs : List ℤ) (r : ℕ) (d : ℤ) → length xs ≤ r → slice_index_or xs r d ≡ d
        past [] r d l = refl
        past (x ∷ xs) zero d l = absurd (omega arith)
        past (x ∷ xs) (suc r) d l = past xs r d (omega arith)

-- ---- cells
pub lines_length : (y : ℕ → ℤ) (j f e : ℕ) (cs : List Cell) → length (line_sums (lines_from y j f e cs)) ≡ length cs
lines_length y j f e [] = refl
lines_length y j f e (c ∷ cs) = ap suc (lines_length y (suc j) (f + cond (has_floor c) 1 0) (e + cond (has_ceiling c) 1 0) cs)

chosen : (b : Bool) (z : ℤ) → unsigned_abs z ≤ 2 ^ 56 → unsigned_abs (cond b z (pos 0)) ≤ 2 ^ 56
chosen true z h = h
chosen false z h = omega arith

three : (a b c : ℤ) → unsigned_abs a ≤ 2 ^ 56 → unsigned_abs b ≤ 2 ^ 56 → unsigned_abs c ≤ 2 ^ 56 → Within (2 ^ 80) (a +ℤ b +ℤ c)
three a b c x y z = record { low = omega (arith, ints); high = omega (arith, ints) }

pub lines_within : (y : ℕ → ℤ) → ((r : ℕ) → unsigned_abs (y r) ≤ 2 ^ 56) → (j f e : ℕ) (cs : List Cell) → All (Within (2 ^ 80)) (line_sums (lines_from y j f e cs))
lines_within y h j f e [] = All-nil _
lines_within y h j f e (c ∷ cs) =
    let l : CellLine = record { cell = c; own = y j; floor = cond (has_floor c) (y f) (pos 0); ceiling = cond (has_ceiling c) (y e) (pos 0) } in
    All-cons (Within (2 ^ 80)) (line_sum l) (line_sums (lines_from y (suc j) (f + cond (has_floor c) 1 0) (e + cond (has_ceiling c) 1 0) cs))
    (three l.own l.floor l.ceiling (h j) (chosen (has_floor c) (y f) (h f)) (chosen (has_ceiling c) (y e) (h e)))
    (lines_within y h (suc j) (f + cond (has_floor c) 1 0) (e + cond (has_ceiling c) 1 0) cs)

-- ---- cuts
pub numbers_length : (y : ℕ → ℤ) (r : ℕ) (cuts : List Cut) → length (numbers_from y r cuts) ≡ length cuts
numbers_length y r [] = refl
numbers_length y r (c ∷ cs) = ap suc (numbers_length y (suc r) cs)

pub numbers_within : (y : ℕ → ℤ) → ((r : ℕ) → unsigned_abs (y r) ≤ 2 ^ 56) → (r : ℕ) (cuts : List Cut) → All (Within (2 ^ 80)) (numbers_from y r cuts)
numbers_within y h r [] = All-nil _
numbers_within y h r (c ∷ cs) = All-cons (Within (2 ^ 80)) (y r) (numbers_from y (suc r) cs) (one (y r) (h r)) (numbers_within y h (suc r) cs)
  where
    one : (z : ℤ) → unsigned_abs z ≤ 2 ^ 56 → Within (2 ^ 80) z
    one z h = record { low = omega (arith, ints); high = omega (arith, ints) }

-- ---- both
abbrev pub gathered : (i : Instance) (cuts : List Cut) (y : ℕ → ℤ) → List ℤ
gathered i cuts y = line_sums (cell_lines i y) ++ y (first_head i) ∷ y (first_head i + 1) ∷ numbers_from y (first_head i + 2) cuts

pub cells_length : (i : Instance) (y : ℕ → ℤ) → length (line_sums (cell_lines i y)) ≡ length i.cells
cells_length i y = lines_length y 0 (length i.cells) (first_ceiling i) i.cells

pub front_of : (i : Instance) (cuts : List Cut) (y : ℕ → ℤ) → take (length i.cells) (gathered i cuts y) ≡ line_sums (cell_lines i y)
front_of i cuts y =
    subst (λ n. take n (gathered i cuts y) ≡ line_sums (cell_lines i y)) (cells_length i y) (take-append_seam (line_sums (cell_lines i y)) (y (first_head i) ∷ y (first_head i + 1) ∷ numbers_from y (first_head i + 2) cuts))

pub back_of : (i : Instance) (cuts : List Cut) (y : ℕ → ℤ) → drop (length i.cells) (gathered i cuts y) ≡ y (first_head i) ∷ y (first_head i + 1) ∷ numbers_from y (first_head i + 2) cuts
back_of i cuts y =
    subst (λ n. drop n (gathered i cuts y) ≡ y (first_head i) ∷ y (first_head i + 1) ∷ numbers_from y (first_head i + 2) cuts) (cells_length i y)
    (drop-append_seam (line_sums (cell_lines i y)) (y (first_head i) ∷ y (first_head i + 1) ∷ numbers_from y (first_head i + 2) cuts))

pub are_wide : (i : Instance) (cuts : List Cut) (y : List ℤ) (kappa : ℕ) → 1 ≤ kappa → kappa ≤ 2 ^ 56 → All (λ (z : ℤ). unsigned_abs z ≤ 2 ^ 56) y → length cuts ≤ 1500
    → AreWide i kappa (line_sums (cell_lines i (at y))) (numbers_from (at y) (first_head i + 2) cuts) cuts
are_wide i cuts y kappa some few narrow short = record {
  positive = some;
  small = omega arith;
  cells = cells_length i (at y);
  each = lines_within (at y) (at_narrow y narrow) 0 (length i.cells) (first_ceiling i) i.cells;
  few = omega arith;
  prices = numbers_length (at y) (first_head i + 2) cuts;
  each_paid = numbers_within (at y) (at_narrow y narrow) (first_head i + 2) cuts;
}

pub few_cuts : (i : Instance) (cuts : List Cut) (n : ℕ) → length (rows_of i cuts) ≤ n → length cuts ≤ n
few_cuts i cuts n h = omega (arith, row_count i cuts)

pub cell_part : (i : Instance) (cuts : List Cut) (y : ℕ → ℤ) (out cell : List ℤ) (n : ℕ) → out ≡ gathered i cuts y → n ≡ length i.cells → cell ≡ take n out
    → cell ≡ line_sums (cell_lines i y)
cell_part i cuts y out cell n a b c = rw (a, b) at c ∙ front_of i cuts y

pub paid_part : (i : Instance) (cuts : List Cut) (y : ℕ → ℤ) (out others paid : List ℤ) (n : ℕ) → out ≡ gathered i cuts y → n ≡ length i.cells → others ≡ drop n out
    → paid ≡ drop 2 others → paid ≡ numbers_from y (first_head i + 2) cuts
paid_part i cuts y out others paid n a b c d =
    let e : others ≡ y (first_head i) ∷ y (first_head i + 1) ∷ numbers_from y (first_head i + 2) cuts = rw (a, b) at c ∙ back_of i cuts y in
    d ∙ ap (λ (xs : List ℤ). drop 2 xs) e
