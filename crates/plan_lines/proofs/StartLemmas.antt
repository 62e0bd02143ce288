-- Periods that begin at a multiple of a length by the clock, one after another.
use Rattle.std.proofs.Common.{◌≡◌, ◌≢◌, ℕ, zero, suc, ◌+◌, ◌-◌, ◌*◌, ◌%◌, ◌<◌, ◌≤◌, Bool, true, false, ◌||◌, eqb, refl, sym, ap, ◌∙◌, arith}
use Rattle.std.proofs.lemmas.Bool.{ne_eqb}
use Rattle.text_lines.proofs.ListLemmas.{same_number}
use Rattle.plan_lines.specs.StartLines.{start_from}
use Rattle.plan_meaning.specs.Times.{begin_minute}
use Rattle.plan_meaning.specs.declared.plan.PlanDay.{PlanDay}

abbrev pub starts_then : PlanDay → ℕ → ℕ → Bool
starts_then d n passed = eqb ((begin_minute d + passed * d.minutes) % n) 0

-- the next of the periods that are left
pub start_step : (d : PlanDay) (n passed all : ℕ) → passed < all
    → start_from d n passed (all - passed) ≡ (starts_then d n passed || start_from d n (passed + 1) (all - (passed + 1)))
start_step d n passed all lt = ap (start_from d n passed) (let left : all - passed ≡ suc (all - (passed + 1)) = omega arith in left)

-- a period that does not, and those behind it
pub start_on : (d : PlanDay) (n passed all moment : ℕ) → passed < all → moment ≡ begin_minute d + passed * d.minutes
    → moment % n ≢ 0 → start_from d n passed (all - passed) ≡ start_from d n (passed + 1) (all - (passed + 1))
start_on d n passed all moment lt is none =
    let other : starts_then d n passed ≡ false = ap (λ (m : ℕ). eqb (m % n) 0) (sym is) ∙ ne_eqb (moment % n) 0 none in
    start_step d n passed all lt ∙ ap (λ (b : Bool). b || start_from d n (passed + 1) (all - (passed + 1))) other

-- one of so many periods does
abbrev pub SomeStart : PlanDay → ℕ → ℕ → ℕ → Type 0
SomeStart d n passed k = (m : ℕ) × (passed ≤ m) × (m < passed + k) × ((begin_minute d + m * d.minutes) % n ≡ 0)

pub start_found : (d : PlanDay) (n passed k : ℕ) → start_from d n passed k ≡ true → SomeStart d n passed k
start_found d n passed zero e = absurd cc
start_found d n passed (suc k) e = by (starts_then d n passed) refl e (λ q. start_found d n (passed + 1) k q)
  where
    by : (t : Bool) → starts_then d n passed ≡ t → (t || start_from d n (passed + 1) k) ≡ true
        → (start_from d n (passed + 1) k ≡ true → SomeStart d n (passed + 1) k) → SomeStart d n passed (suc k)
    by true h q later = (passed, omega arith, omega arith, same_number _ 0 h)
    by false h q later =
        let r = later q in
        (r.0, (let a = r.1 in omega (arith, a)), (let b = r.2 in omega (arith, b)), r.3)
