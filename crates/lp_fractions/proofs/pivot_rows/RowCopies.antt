-- Rows that are copied, with zeros behind them.
use Rattle.std.proofs.Common.{◌≡◌, ℕ, ℤ, zero, suc, pos, ◌-◌, ◌≤◌, arith, List, [], ◌∷◌, ◌++◌, length, drop, replicate, refl, ap, length-append, append-nil}
use Rattle.std.proofs.Math.Seq.{take-append_seam, drop-append_seam}
use Rattle.std.proofs.lemmas.List.{drop_all}
use borrow.Rule.Slice.PartMut.{put_mid}
use Rattle.lp_fractions.specs.pivot_rows.Rows.{zeros}

pub zeros_are : (n : ℕ) → replicate n (pos 0) ≡ zeros n
zeros_are zero = refl
zeros_are (suc n) = ap (λ (xs : List ℤ). pos 0 ∷ xs) (zeros_are n)

-- the first numbers are those of the row, and the rest zeros
pub copied : (numbers row head tail : List ℤ) (n : ℕ) → length row ≤ length numbers → head ≡ row → n ≡ length (head ++ drop (length row) numbers) - length row → tail ≡ zeros (length numbers - length row) → put_mid (length row) n (head ++ drop (length row) numbers) tail ≡ row ++ zeros (length numbers - length row)
copied numbers row head tail n l e m t =
    let last : drop n (drop (length row) numbers) ≡ [] = drop_all n (drop (length row) numbers) (omega (arith, length-append head (drop (length row) numbers), ap length e)) in
    rw (e, t, take-append_seam, drop-append_seam, last, append-nil) refl
