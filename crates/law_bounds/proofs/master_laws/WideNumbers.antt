-- A rounded number is large only where some price of a row is.
use Rattle.std.proofs.Common.{◌≡◌, ℕ, ℤ, suc, arith, pos, negsuc, neg_ℤ, ◌+ℤ◌, ◌*ℤ◌, ◌≤ℤ◌, ◌<ℤ◌, ◌+◌, ◌*◌, ◌^◌, ◌≤◌, ◌<◌, unsigned_abs, Bool, true, false, cond, List, [], ◌∷◌, ◌++◌, length, ap, ◌⊎◌, inl, inr}
use Rattle.std.proofs.Math.Nat.{mul-le-mul_left}
use Rattle.std.proofs.lemmas.Int.{ints}
use lib.IntN.{*ℤ_comm}
use Rattle.model_rosters.specs.declared.instance.Cell.{Cell}
use Rattle.model_rosters.specs.declared.instance.Cut.{Cut}
use Rattle.model_rosters.specs.declared.instance.Instance.{Instance}
use Rattle.model_rosters.specs.Folds.{Each, In}
use Rattle.model_rosters.proofs.arc_laws.FoldsLemmas.{In-append}
use Rattle.law_bounds.specs.master_laws.Rows.{Row, floor_row, ceiling_row, has_floor, has_ceiling, floor_rows, ceiling_rows, rows_of}
use Rattle.law_bounds.specs.master_laws.Rounding.{lines_from, cell_lines, first_ceiling, first_head, line_sums, numbers_from, IsMadeWhole, IsDenominator, IsFloor}
use Rattle.law_bounds.proofs.master_laws.RowSizes.{row_count}

either : (a b : ℕ) → (a ≤ b) ⊎ (b + 1 ≤ a)
either a b = grind arith

pub cancel_le : (q x y : ℕ) → 0 < q → q * x ≤ q * y → x ≤ y
cancel_le q x y h l = by (either x y)
  where
    by : (x ≤ y) ⊎ (y + 1 ≤ x) → x ≤ y
    by (inl e) = e
    by (inr e) = absurd (omega (arith, mul-le-mul_left q e))

-- a denominator is at most kappa, or 2^20
narrow : (k d n m : ℕ) → 0 < k → d ≤ k → k * n ≤ m * d → n ≤ m
narrow k d n m h l e = cancel_le k n m h (omega (arith, mul-le-mul_left m l))

large_at : (k d : ℕ) (x p : ℤ) → 0 < k → (d ≤ k) ⊎ (d ≡ 2 ^ 20) → IsFloor (pos k) d x p → 2 ^ 80 < unsigned_abs p → 2 ^ 58 < unsigned_abs x
large_at k d (pos m) (pos n) h c f l = by c
  where
    e : k * n ≤ m * d
    e = let a = f.low in omega (arith, ints)

    by : (d ≤ k) ⊎ (d ≡ 2 ^ 20) → 2 ^ 58 < m
    by (inl b) = let r = narrow k d n m h b e in omega arith
    by (inr b) = let r = mul-le-mul_left n h in let s : m * d ≡ m * 2 ^ 20 = ap (λ j. m * j) b in omega (arith, e)
large_at k d (negsuc m) (pos n) h c f l = absurd (none (f.low))
  where
    none : (pos k *ℤ pos n) ≤ℤ (negsuc m *ℤ pos d) → ⊥
    none a = let r = mul-le-mul_left n h in omega (arith, ints)
large_at k d (negsuc m) (negsuc n) h c f l = by c
  where
    e : k * n ≤ suc m * d
    e = let a = f.high in omega (arith, ints)

    by : (d ≤ k) ⊎ (d ≡ 2 ^ 20) → 2 ^ 58 < suc m
    by (inl b) = let r = narrow k d n (suc m) h b e in omega (arith, l)
    by (inr b) = let r = mul-le-mul_left n h in let s : suc m * d ≡ suc m * 2 ^ 20 = ap (λ j. suc m * j) b in omega (arith, e, l)
large_at k d (pos m) (negsuc n) h c f l = absurd (none (f.high))
  where
    none : (pos m *ℤ pos d) <ℤ (pos k *ℤ negsuc n +ℤ pos k) → ⊥
    none a = omega (arith, ints)

narrow_denominator : (k : ℕ) (xs : List ℤ) (d : ℕ) → 0 < k → IsDenominator (pos k) xs d → (d ≤ k) ⊎ (d ≡ 2 ^ 20)
narrow_denominator k xs d h (inl a) = inl (a.0.least k h (all xs))
  where
    all : (xs : List ℤ) → Each (IsMadeWhole (pos k) k) xs
    all [] = tt
    all (x ∷ xs) = ((x, *ℤ_comm x (pos k)), all xs)
narrow_denominator k xs d h (inr a) = inr a.1

-- ---- where the numbers come from
abbrev Found : (ℕ → ℤ) → ℕ → Type 0
Found y m = (r : ℕ) × (r < m) × (2 ^ 56 < unsigned_abs (y r))

-- one of three numbers is large where their sum is
one_of : (a b c : ℤ) → 2 ^ 58 < unsigned_abs (a +ℤ b +ℤ c) → (2 ^ 56 < unsigned_abs a) ⊎ (2 ^ 56 < unsigned_abs b) ⊎ (2 ^ 56 < unsigned_abs c)
one_of a b c h = by (either (unsigned_abs a) (2 ^ 56)) (either (unsigned_abs b) (2 ^ 56))
  where
    by : (unsigned_abs a ≤ 2 ^ 56) ⊎ (2 ^ 56 + 1 ≤ unsigned_abs a) → (unsigned_abs b ≤ 2 ^ 56) ⊎ (2 ^ 56 + 1 ≤ unsigned_abs b) → (2 ^ 56 < unsigned_abs a) ⊎ (2 ^ 56 < unsigned_abs b) ⊎ (2 ^ 56 < unsigned_abs c)
    by (inr k) l = inl (omega arith)
    by (inl k) (inr l) = inr (inl (omega arith))
    by (inl k) (inl l) = inr (inr (last a b c k l h))
      where
        last : (a b c : ℤ) → unsigned_abs a ≤ 2 ^ 56 → unsigned_abs b ≤ 2 ^ 56 → 2 ^ 58 < unsigned_abs (a +ℤ b +ℤ c) → 2 ^ 56 < unsigned_abs c
        last a b c k l h = omega (arith, ints)

pub one_length : (b : Bool) (x : Row) (xs : List Row) → length (cond b (x ∷ []) [] ++ xs) ≡ cond b 1 0 + length xs
one_length true x xs = omega arith
one_length false x xs = omega arith

module _ (y : ℕ → ℤ) (m : ℕ) where
  picked : (b : Bool) (f n : ℕ) → f + (cond b 1 0 + n) ≤ m → 2 ^ 56 < unsigned_abs (cond b (y f) (pos 0)) → Found y m
  picked true f n h l = (f, omega arith, l)
  picked false f n h l = absurd (omega (arith, ints, l))

  in_lines : (j f e : ℕ) (cs : List Cell) (x : ℤ) → j + length cs ≤ m → f + length (floor_rows cs) ≤ m → e + length (ceiling_rows cs) ≤ m → In x (line_sums (lines_from y j f e cs)) → 2 ^ 58 < unsigned_abs x → Found y m
  in_lines j f e [] x hj hf he h l = absurd h
  in_lines j f e (c ∷ cs) x hj hf he (inr h) l =
      let p = one_length (has_floor c) (floor_row c) (floor_rows cs) in
      let q = one_length (has_ceiling c) (ceiling_row c) (ceiling_rows cs) in
      in_lines (suc j) (f + cond (has_floor c) 1 0) (e + cond (has_ceiling c) 1 0) cs x (omega arith) (omega arith) (omega arith) h l
  in_lines j f e (c ∷ cs) x hj hf he (inl h) l = by (one_of (y j) (cond (has_floor c) (y f) (pos 0)) (cond (has_ceiling c) (y e) (pos 0)) (rw h at l))
    where
      by : (2 ^ 56 < unsigned_abs (y j)) ⊎ (2 ^ 56 < unsigned_abs (cond (has_floor c) (y f) (pos 0))) ⊎ (2 ^ 56 < unsigned_abs (cond (has_ceiling c) (y e) (pos 0))) → Found y m
      by (inl a) = (j, omega arith, a)
      by (inr (inl a)) = let p = one_length (has_floor c) (floor_row c) (floor_rows cs) in picked (has_floor c) f (length (floor_rows cs)) (omega arith) a
      by (inr (inr a)) = let q = one_length (has_ceiling c) (ceiling_row c) (ceiling_rows cs) in picked (has_ceiling c) e (length (ceiling_rows cs)) (omega arith) a

  in_numbers : (r : ℕ) (cs : List Cut) (x : ℤ) → r + length cs ≤ m → In x (numbers_from y r cs) → 2 ^ 58 < unsigned_abs x → Found y m
  in_numbers r [] x h i l = absurd i
  in_numbers r (c ∷ cs) x h (inl e) l = (r, omega arith, let k : 2 ^ 58 < unsigned_abs (y r) = rw e at l in omega arith)
  in_numbers r (c ∷ cs) x h (inr i) l = in_numbers (suc r) cs x (omega arith) i l

pub wide_rounding : (i : Instance) (cuts : List Cut) (y : ℕ → ℤ) (kappa : ℤ) (d : ℕ) (x p : ℤ) → pos 0 <ℤ kappa
    → IsDenominator kappa (line_sums (cell_lines i y) ++ numbers_from y (first_head i + 2) cuts) d
    → In x (line_sums (cell_lines i y) ++ numbers_from y (first_head i + 2) cuts) → IsFloor kappa d x p ⊎ IsFloor kappa d (neg_ℤ x) p → 2 ^ 80 < unsigned_abs p
    → (r : ℕ) × (r < length (rows_of i cuts)) × (2 ^ 56 < unsigned_abs (y r))
wide_rounding i cuts y (negsuc k) d x p h den there f l = absurd (omega (arith, ints))
wide_rounding i cuts y (pos k) d x p h den there f l =
    let some : 0 < k = omega (arith, ints) in
    let c = narrow_denominator k _ d some den in
    let big : 2 ^ 58 < unsigned_abs x = large c some f in
    by big (In-append x (line_sums (cell_lines i y)) (numbers_from y (first_head i + 2) cuts) there)
  where
    turned : (x : ℤ) → unsigned_abs (neg_ℤ x) ≡ unsigned_abs x
    turned x = omega (arith, ints)

    large : (d ≤ k) ⊎ (d ≡ 2 ^ 20) → 0 < k → IsFloor (pos k) d x p ⊎ IsFloor (pos k) d (neg_ℤ x) p → 2 ^ 58 < unsigned_abs x
    large c some (inl f) = large_at k d x p some c f l
    large c some (inr f) = rw (turned x) at (large_at k d (neg_ℤ x) p some c f l)

    by : 2 ^ 58 < unsigned_abs x → In x (line_sums (cell_lines i y)) ⊎ In x (numbers_from y (first_head i + 2) cuts) → Found y (length (rows_of i cuts))
    by big (inl h) = let n = row_count i cuts in in_lines y (length (rows_of i cuts)) 0 (length i.cells) (first_ceiling i) i.cells x (omega arith) (omega arith) (omega arith) h big
    by big (inr h) = let n = row_count i cuts in in_numbers y (length (rows_of i cuts)) (first_head i + 2) cuts x (omega arith) h big
