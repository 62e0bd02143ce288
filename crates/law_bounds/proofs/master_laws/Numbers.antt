-- Products of whole numbers with naturals.
use Rattle.std.proofs.Common.{◌≡◌, ℕ, ℤ, zero, suc, arith, pos, negsuc, neg_ℤ, ◌+ℤ◌, ◌*ℤ◌, ◌≤ℤ◌, ◌+◌, ◌-◌, ◌*◌, ◌≤◌, sym, ap, ◌∙◌, ◌⊎◌, inl, inr}
use Rattle.std.proofs.lemmas.Int.{ints}
use lib.IntN.{*ℤ_comm}
use Rattle.law_bounds.proofs.linear_programs.Orders.{times_add, times_times, times_le, scale_le}
use Rattle.law_bounds.proofs.linear_programs.Ring.{*ℤ-assoc, *ℤ-+ℤ, neg-*ℤ}

pub add_times : (x y : ℤ) (n : ℕ) → (x +ℤ y) *ℤ pos n ≡ x *ℤ pos n +ℤ y *ℤ pos n
add_times x y n = *ℤ_comm (x +ℤ y) (pos n) ∙ *ℤ-+ℤ (pos n) x y ∙ ap (λ (z : ℤ). z +ℤ pos n *ℤ y) (*ℤ_comm (pos n) x) ∙ ap (λ (z : ℤ). x *ℤ pos n +ℤ z) (*ℤ_comm (pos n) y)

pub neg_times : (x : ℤ) (n : ℕ) → neg_ℤ x *ℤ pos n ≡ neg_ℤ (x *ℤ pos n)
neg_times x n = neg-*ℤ x (pos n)

pub times_neg : (x y : ℤ) → x *ℤ neg_ℤ y ≡ neg_ℤ (x *ℤ y)
times_neg x y = *ℤ_comm x (neg_ℤ y) ∙ neg-*ℤ y x ∙ ap neg_ℤ (*ℤ_comm y x)

-- a number that is not negative grows with its factor
pub times_mono : (x : ℤ) (m n : ℕ) → pos 0 ≤ℤ x → m ≤ n → (x *ℤ pos m) ≤ℤ (x *ℤ pos n)
times_mono x m n h l = scale_le x (pos m) (pos n) h (omega (arith, ints))

pub times_fall : (x : ℤ) (m n : ℕ) → x ≤ℤ pos 0 → m ≤ n → (x *ℤ pos n) ≤ℤ (x *ℤ pos m)
times_fall x m n h l =
    let a = times_mono (neg_ℤ x) m n (omega (arith, ints)) l in
    let b = neg_times x m in
    let c = neg_times x n in
    omega (arith, ints)

-- the price of a cell's own row, over kappa, against the penalty of n employees
pub own_le : (kappa own : ℤ) (under over need n : ℕ) → neg_ℤ (kappa *ℤ pos over) ≤ℤ own → own ≤ℤ (kappa *ℤ pos under)
    → (own *ℤ pos need) ≤ℤ (kappa *ℤ pos (under * (need - n) + over * (n - need)) +ℤ own *ℤ pos n)
own_le kappa own under over need n low high = by (either need n)
  where
    either : (a b : ℕ) → (a ≤ b) ⊎ (b ≤ a)
    either a b = grind arith

    by : (need ≤ n) ⊎ (n ≤ need) → (own *ℤ pos need) ≤ℤ (kappa *ℤ pos (under * (need - n) + over * (n - need)) +ℤ own *ℤ pos n)
    by (inl h) =
        let k = n - need in
        let e : need + k ≡ n = omega arith in
        let f : under * (need - n) + over * (n - need) ≡ over * k = let z : need - n ≡ 0 = omega arith in rw z (omega arith) in
        let a : own *ℤ pos n ≡ own *ℤ pos need +ℤ own *ℤ pos k = rw e at (times_add own need k) in
        let b = times_le (neg_ℤ (kappa *ℤ pos over)) own k low in
        let c = neg_times (kappa *ℤ pos over) k in
        let d = times_times kappa over k in
        rw f (omega (arith, ints))
    by (inr h) =
        let k = need - n in
        let e : n + k ≡ need = omega arith in
        let f : under * (need - n) + over * (n - need) ≡ under * k = let z : n - need ≡ 0 = omega arith in rw z (omega arith) in
        let a : own *ℤ pos need ≡ own *ℤ pos n +ℤ own *ℤ pos k = rw e at (times_add own n k) in
        let b = times_le own (kappa *ℤ pos under) k high in
        let d = times_times kappa under k in
        rw f (omega (arith, ints))
