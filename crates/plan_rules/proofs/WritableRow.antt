-- A plan of three periods and one code is writable, and so the demand can be met.
use Rattle.std.proofs.Common.{◌≡◌, inl, inr, ℕ, ◌≤◌, true, Some, List, [], ◌∷◌, arith, refl}
use Rattle.model_rosters.specs.declared.grammar.Window.{Window}
use Rattle.model_rosters.specs.Folds.{In}
use Rattle.plan_laws.specs.declared.period_plan.Activity.{Activity}
use Rattle.plan_laws.specs.declared.period_plan.NamedLines.{NamedLines}
use Rattle.plan_laws.specs.declared.period_plan.PeriodDuty.{PeriodDuty}
use Rattle.plan_laws.specs.declared.period_plan.PeriodPart.TheVariants.{Working}
use Rattle.plan_laws.specs.declared.period_plan.PeriodPlan.{PeriodPlan}
use Rattle.plan_laws.specs.PeriodShifts.{letter_cost}
use Rattle.plan_rules.specs.Writable.{IsFineLine, IsWritable}

abbrev till : Activity
till = record { code = 116; work = true; least = 1; greatest = 2; amount = 5 }

abbrev whole_day : Window
whole_day = record { lo = 1; hi = 96 }

abbrev line : PeriodDuty
line = record {
  length = record { lo = 2; hi = 2 };
  cost = 1;
  parts = Working (till ∷ []) ∷ [];
  begin = whole_day;
  end = whole_day;
  stretch = record { lo = 1; hi = 2 };
  plus = 0;
}

abbrev plan : PeriodPlan
plan = record { periods = 3; off = 46; activities = till ∷ []; extras = []; change = Some 0; starts = 1; first_start = 0 }

abbrev staff : List NamedLines
staff = record { name = []; lines = line ∷ [] } ∷ []

only_till : (b : Activity) → In b (till ∷ []) → b ≡ till
only_till b (inl e) = e
only_till b (inr q) = absurd q

cheap : (i : ℕ) → letter_cost plan 0 116 i ≤ 10000
cheap i = omega arith

fine_till : IsFineLine plan 0 till
fine_till = record {
  line = record { one = inl refl; only = λ b at e. only_till b at; some = omega arith; ordered = omega arith };
  few = omega arith;
  cheap = λ i lo hi. cheap i;
}

pub writable : IsWritable plan staff
writable = record {
  some = omega arith;
  few = omega arith;
  starts = omega arith;
  few_starts = omega arith;
  first = omega arith;
  change = omega arith;
  codes = record {
    off = refl;
    codes = ((refl, λ e. omega (arith, e)), tt);
    apart = (tt, tt);
    few_work = omega arith;
    few_pauses = omega arith;
  };
  lines = (
    record {
      some = omega arith;
      lines = (
        record {
          lasts = record { first = omega arith; order = omega arith; last = omega arith };
          begins = record { first = omega arith; order = omega arith; last = omega arith };
          ends = record { first = omega arith; order = omega arith; last = omega arith };
          stretch = record { first = omega arith; order = omega arith; last = omega arith };
          cost = omega arith;
          some = omega arith;
          few = omega arith;
          parts = (record { some = omega arith; few = omega arith; lines = (fine_till, tt); apart = (tt, tt) }, tt);
        },
        tt,
      );
    },
    tt,
  );
  names = inl (record { name = []; lines = line ∷ [] }, refl, refl);
}
