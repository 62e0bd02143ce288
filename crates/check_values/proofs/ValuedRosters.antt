-- A roster without causes is an allowed one of its prices, and costs what is said.
use Rattle.std.proofs.Common.{◌≡◌, ◌≢◌, ℕ, ◌+◌, Result, Ok, Err, IfOk, Option, List, [], arith, refl, sym, ap, ◌∙◌}
use Rattle.model_rosters.specs.declared.instance.Cell.{Cell}
use Rattle.model_rosters.specs.declared.instance.Instance.{Instance}
use Rattle.model_rosters.specs.declared.instance.Shift.{Shift}
use Rattle.model_rosters.specs.declared.memory.Memory.{Memory}
use Rattle.model_rosters.specs.Coverage.{covered, penalty}
use Rattle.model_rosters.specs.Duties.{Duty}
use Rattle.model_rosters.specs.Folds.{sum_n}
use Rattle.model_rosters.specs.Rosters.{IsRoster, roster_cost, Costs}
use Rattle.model_rosters.specs.SoundInstance.{IsSoundInstance}
use Rattle.check_certificates.specs.RosterCauses.{duties, stated_prices}
use Rattle.text_reports.specs.Reports.{HasSoundShifts}
use Rattle.check_values.specs.declared.cause.Cause.{Cause}
use Rattle.check_values.specs.declared.valued.Valued.{Valued}
use Rattle.check_values.specs.Causes.{AreFound, causes_of}
use Rattle.check_values.specs.Prices.{at_prices}
use Rattle.check_values.specs.Values.{IsValued, AreCauses}
use Rattle.check_values.proofs.AllowedRosters.{allowed, no-cause}
use Rattle.check_values.proofs.PricedShifts.{priced-sound, same-duties}

module _ (i : Instance) (ss : List Shift) (os : List (Option ℕ)) (found : AreFound i ss os) where
  -- what shifts at their prices come to is what the roster comes to
  value_is : (v : Valued) → IsSoundInstance i → HasSoundShifts i ss → causes_of i (duties ss) os ≡ [] → v.shifts ≡ at_prices ss os
      → v.paid ≡ sum_n (λ (p : ℕ). p) (stated_prices (at_prices ss os)) → v.cost ≡ roster_cost i (duties (at_prices ss os)) (stated_prices (at_prices ss os)) → v.cost ≡ v.paid + v.penalty → IsValued i ss v
  value_is v sound shifts none e paid cost total =
      let same : duties (at_prices ss os) ≡ duties ss = same-duties i ss os found in
      let prices : stated_prices v.shifts ≡ stated_prices (at_prices ss os) = ap stated_prices e in
      let all : v.cost ≡ roster_cost i (duties ss) (stated_prices (at_prices ss os)) = cost ∙ ap (λ (ds : List Duty). roster_cost i ds (stated_prices (at_prices ss os))) same in
      record {
        same = ap duties e ∙ same;
        allowed = rw prices (allowed i ss os found none);
        paid = rw prices paid;
        penalty = omega (arith, all, paid, total);
        cost = total;
        sound = rw e (priced-sound i sound ss os found shifts);
      }

  pub valued-is : (r : Result Valued Memory) (ps : List Shift) → IsSoundInstance i → HasSoundShifts i ss → causes_of i (duties ss) os ≡ [] → ps ≡ at_prices ss os → IfOk r (λ v. v.shifts ≡ ps)
      → IfOk r (λ v. v.paid ≡ sum_n (λ (p : ℕ). p) (stated_prices ps)) → IfOk r (λ v. v.cost ≡ roster_cost i (duties ps) (stated_prices ps)) → IfOk r (λ v. v.cost ≡ v.paid + v.penalty) → IfOk r (IsValued i ss)
  valued-is (Err e) ps sound shifts none is same paid cost total = tt
  valued-is (Ok v) ps sound shifts none is same paid cost total =
      value_is v sound shifts none (same ∙ is) (paid ∙ ap (λ (xs : List Shift). sum_n (λ (p : ℕ). p) (stated_prices xs)) is)
      (cost ∙ ap (λ (xs : List Shift). roster_cost i (duties xs) (stated_prices xs)) is) total

  -- and one with causes is not allowed
  pub causes-are : (cs : List Cause) → cs ≡ causes_of i (duties ss) os → cs ≢ [] → AreCauses i ss cs
  causes-are cs all some = record { found = os; prices = found; all = all; some = some; never = λ amount costs. some (all ∙ no-cause i ss os amount found costs) }

-- an allowed roster costs its prices and its penalties
pub value-costs : (i : Instance) (ss : List Shift) (v : Valued) → IsValued i ss v → Costs i (duties ss) v.cost
value-costs i ss v h = record { prices = stated_prices v.shifts; allowed = h.allowed; total = omega (arith, h.paid, h.penalty, h.cost) }
