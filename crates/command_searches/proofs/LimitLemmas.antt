-- What holds for the limit of a search.
use Rattle.std.proofs.Common.{ℕ, ◌≡◌, Bool, Option, None, subst, ◌∙◌, arith}
use Rattle.std.specs.Prelude.{IsTrue}
use Rattle.search_watch.specs.Within.{IsWithin}
use Rattle.command_searches.specs.declared.limit.Limit.{Limit}
use Rattle.command_searches.specs.declared.limit.Limit.TheVariants.{Turns, Seconds}
use Rattle.command_searches.specs.Limits.{IsLimit, ForLimit, turns_of, seconds_of}

-- it holds for some number of turns
pub for-some : (limit : Limit) (P : ℕ → Type 0) → ForLimit limit P → (k : ℕ) × P k
for-some (Turns n) P h = (n, h)
for-some (Seconds s) P h = (h.0, h.2)

pub for-map : (limit : Limit) (P Q : ℕ → Type 0) → ((k : ℕ) → P k → Q k) → ForLimit limit P → ForLimit limit Q
for-map (Turns n) P Q f h = f n h
for-map (Seconds s) P Q f h = (h.0, h.1, f h.0 h.2)

-- what holds within the limit's turns, and for all of them where a watch without seconds is patient
pub of-within : (limit : Limit) (patient : Bool) (turns : ℕ) → turns ≡ turns_of limit → IsLimit limit → (P : ℕ → Type 0)
    → (seconds : Option ℕ) → (seconds ≡ None → IsTrue patient) → seconds ≡ seconds_of limit → IsWithin patient turns P → ForLimit limit P
of-within (Turns n) patient turns e is P seconds calm none h = subst P (h.whole (calm none) ∙ e) h.holds
of-within (Seconds s) patient turns e is P seconds calm none h =
    let few = h.few in
    (h.used, omega (arith, few, e), h.holds)
