-- What holds for some number of turns.
use Rattle.std.proofs.Common.{ℕ, ◌≤◌, Bool, refl, arith}
use Rattle.search_watch.specs.Within.{IsWithin}

-- a fact follows for the same number of turns
pub within-map : (patient : Bool) (turns : ℕ) (P Q : ℕ → Type 0) → ((k : ℕ) → k ≤ turns → P k → Q k)
    → IsWithin patient turns P → IsWithin patient turns Q
within-map patient turns P Q f is = record {
  used = is.used;
  few = is.few;
  whole = is.whole;
  holds = f is.used is.few is.holds;
}

-- a fact on all turns holds whoever watches
pub within-all : (patient : Bool) (turns : ℕ) (P : ℕ → Type 0) → P turns → IsWithin patient turns P
within-all patient turns P holds = record {
  used = turns;
  few = omega arith;
  whole = λ _. refl;
  holds = holds;
}
