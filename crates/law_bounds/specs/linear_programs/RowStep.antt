-- One step of fraction-free elimination on a row of numbers.
use Rattle.std.specs.Prelude.{ℕ, ℤ, ◌<◌, ◌≡◌, max, unsigned_abs, pos, ◌*ℤ◌, ◌-ℤ◌}
use Rattle.std.specs.Int.{◌∣◌}
use Rattle.law_bounds.specs.linear_programs.Sums.{dot}

-- what the number r, with the number s of the other row at its place, becomes before the common factor is taken out
abbrev pub combined : ℤ → ℤ → ℤ → ℤ → ℤ
combined p r a s = p *ℤ r -ℤ a *ℤ s

-- d is the greatest common divisor of the sizes of f 0 to f (n - 1), and 0 where all of them are 0
pub record IsCommonFactor (f : ℕ → ℤ) (n d : ℕ) : Type 0 where
  pub divides : (k : ℕ) → k < n → d ∣ unsigned_abs (f k)
  pub greatest : (e : ℕ) → ((k : ℕ) → k < n → e ∣ unsigned_abs (f k)) → e ∣ d

-- the n numbers of a row become (p * row - a * other) / g: g is the greatest common divisor of the new numbers, or 1 where all are 0
pub record IsRowStep (n : ℕ) (p : ℤ) (row : ℕ → ℤ) (a : ℤ) (other left : ℕ → ℤ) (g : ℤ) : Type 0 where
  pub factor : (d : ℕ) × IsCommonFactor (λ k. combined p (row k) a (other k)) n d × (g ≡ pos (max 1 d))
  pub entries : (k : ℕ) → k < n → g *ℤ left k ≡ combined p (row k) a (other k)

-- the vector v / q meets a row of m numbers and a right side at place m
abbrev pub MeetsRow : ℕ → (ℕ → ℤ) → (ℕ → ℤ) → ℤ → Type 0
MeetsRow m row v q = dot m row v ≡ q *ℤ row m
