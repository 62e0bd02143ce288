-- Numbers that make fractions whole.
use Rattle.std.specs.Prelude.{ℕ, ℤ, ◌≤◌, ◌<◌, ◌^◌, List}
use Rattle.std.specs.Int.{◌∣◌}
use Rattle.model_rosters.specs.Folds.{Each}
use Rattle.law_bounds.specs.master_laws.Rounding.{IsMadeWhole}

-- the multiples of `next` are those of d that make x / kappa whole
pub record IsNext (d : ℕ) (x kappa : ℤ) (next : ℕ) : Type 0 where
  pub some : 1 ≤ next
  pub few : next ≤ 2 ^ 30
  pub into : (e : ℕ) → d ∣ e → IsMadeWhole kappa e x → next ∣ e
  pub old : (e : ℕ) → next ∣ e → d ∣ e
  pub made : (e : ℕ) → next ∣ e → IsMadeWhole kappa e x

-- each multiple of d that makes x / kappa whole is above 2^30
abbrev pub IsPast : ℕ → ℤ → ℤ → Type 0
IsPast d x kappa = (e : ℕ) → 1 ≤ e → d ∣ e → IsMadeWhole kappa e x → 2 ^ 30 < e

-- each number that makes all fractions whole is above 2^30
abbrev pub AreAllPast : ℤ → List ℤ → Type 0
AreAllPast kappa xs = (e : ℕ) → 1 ≤ e → Each (IsMadeWhole kappa e) xs → 2 ^ 30 < e

-- the numbers that make all fractions whole are the multiples of d
pub record IsLeastFor (kappa : ℤ) (xs : List ℤ) (d : ℕ) : Type 0 where
  pub some : 1 ≤ d
  pub few : d ≤ 2 ^ 30
  pub into : (e : ℕ) → Each (IsMadeWhole kappa e) xs → d ∣ e
  pub made : (e : ℕ) → d ∣ e → Each (IsMadeWhole kappa e) xs
