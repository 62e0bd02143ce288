-- Counts that rise.
use Rattle.std.proofs.Common.{◌≡◌, ℕ, ◌+◌, ◌-◌, ◌<◌, ◌≤◌, ◌^◌, ◌⊎◌, inl, inr, arith, refl}
use Rattle.std.proofs.lemmas.Bool.{cases_lt}
use Rattle.lp_fractions.specs.Range.{Counts, raised, refused, overspent}
use Rattle.lp_tableaus.specs.Risen.{HasRisen}

risen : (n : ℕ) → HasRisen n (raised n)
risen n = by (cases_lt (n + 1) (2 ^ 64 - 1))
  where
    by : (n + 1 < 2 ^ 64 - 1) ⊎ (2 ^ 64 - 1 ≤ n + 1) → HasRisen n (raised n)
    by (inl h) = inl (omega arith)
    by (inr h) = inr (omega arith)

pub refused_risen : (old new : Counts) → new ≡ refused old → HasRisen old.wide new.wide
refused_risen old new e = rw e (risen old.wide)

pub refused_counts : (old new : Counts) → old.wide < 2 ^ 64 → new ≡ refused old → (old.wide ≤ new.wide) × (new.spent ≡ old.spent)
refused_counts old new h e = rw e (omega arith, refl)

pub spent_risen : (old new : Counts) → new ≡ overspent old → HasRisen old.spent new.spent
spent_risen old new e = rw e (risen old.spent)

pub spent_counts : (old new : Counts) → old.spent < 2 ^ 64 → new ≡ overspent old → (new.wide ≡ old.wide) × (old.spent ≤ new.spent)
spent_counts old new h e = rw e (refl, omega arith)
