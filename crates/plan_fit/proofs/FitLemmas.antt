-- A plan that was read is fit.
use Rattle.std.proofs.Common.{◌≡◌, ◌≢◌, inl, inr, ℕ, ◌+◌, ◌*◌, ◌/◌, ◌≤◌, List, [], ◌∷◌, Option, Some, None, Ok, arith, refl, sym, ap, ◌∙◌, mul-le-mul_right}
use Rattle.std.proofs.Math.Nat.{mul-div_cancel}
use Rattle.model_rosters.proofs.EachLemmas.{Each-at, Each-weaker, each_all}
use Rattle.model_rosters.specs.Folds.{In}
use Rattle.plan_duties.proofs.GoodTails.{IsGoodDuty, IsGoodPart, MayBegin, MayEnd, MayLast}
use Rattle.plan_fields.proofs.GoodPairs.{AreGoodLengths}
use Rattle.plan_fields.proofs.GoodWords.{from_rest}
use Rattle.plan_lines.proofs.GoodDrafts.{AreApart, IsGoodCode, IsGoodExtra, MayStart}
use Rattle.plan_lines.proofs.GoodPlans.{IsGoodPlan, plan_good}
use Rattle.plan_lines.specs.Plans.{plan_of}
use Rattle.plan_meaning.specs.Shifts.{stretch_of}
use Rattle.plan_meaning.specs.Times.{begin_minute, day_length}
use Rattle.plan_meaning.specs.Whole.{AreWhole, AreWholeBegins, AreWholeEnds, AreWholeStarts, IsFirstStart, IsMultiple, IsWholeCode, IsWholeDuty, IsWholeExtra, IsWholePart, IsWholePlan}
use Rattle.plan_meaning.specs.declared.plan.Duty.{Duty}
use Rattle.plan_meaning.specs.declared.plan.Extra.{Extra}
use Rattle.plan_meaning.specs.declared.plan.Lengths.{Lengths}
use Rattle.plan_meaning.specs.declared.plan.Part.{Part}
use Rattle.plan_meaning.specs.declared.plan.Part.TheVariants.{Pause, Work}
use Rattle.plan_meaning.specs.declared.plan.Plan.{Plan}
use Rattle.plan_meaning.specs.declared.plan.PlanCode.{PlanCode}
use Rattle.plan_meaning.specs.declared.plan.Times.{Times}
use Rattle.plan_laws.specs.Turned.{turned_starts}
use Rattle.plan_periods.specs.FitPlans.{AreFitBegins, AreFitEnds, AreFitLengths, IsFitCode, IsFitDuty, IsFitExtra, IsFitPart, IsFitPlan}

-- lines of one code are one line
one_line : (xs : List PlanCode) (b c : PlanCode) → AreApart xs → In b xs → In c xs → b.code ≡ c.code → b ≡ c
one_line [] b c s i j e = absurd i
one_line (x ∷ xs) b c s (inl i) (inl j) e = i ∙ sym j
one_line (x ∷ xs) b c s (inl i) (inr j) e =
    absurd (Each-at (λ (y : PlanCode). y.code ≢ x.code) c xs s.0 j (sym e ∙ ap (λ (y : PlanCode). y.code) i))
one_line (x ∷ xs) b c s (inr i) (inl j) e =
    absurd (Each-at (λ (y : PlanCode). y.code ≢ x.code) b xs s.0 i (e ∙ ap (λ (y : PlanCode). y.code) j))
one_line (x ∷ xs) b c s (inr i) (inr j) e = one_line xs b c s.1 i j e

whole_lengths : (p : Plan) (x : Lengths) → AreGoodLengths p.day x → AreWhole p x
whole_lengths p x g = record {
  least = g.least.whole;
  greatest = g.greatest.whole;
  some = g.least.some;
  ordered = g.ordered;
}

fit_lengths : (p : Plan) (x : Lengths) → AreGoodLengths p.day x → AreFitLengths p x
fit_lengths p x g = record { least = g.least.few; greatest = g.greatest.few }

whole_begins : (p : Plan) (o : Option Times) → MayBegin p.day o → AreWholeBegins p o
whole_begins p None g = tt
whole_begins p (Some t) g = (g.from.whole, g.to.whole)

fit_begins : (p : Plan) (o : Option Times) → MayBegin p.day o → AreFitBegins p o
fit_begins p None g = tt
fit_begins p (Some t) g = (g.from.few, g.to.few)

whole_ends : (p : Plan) (o : Option Times) → MayEnd p.day o → AreWholeEnds p o
whole_ends p None g = tt
whole_ends p (Some t) g = (g.from.whole, g.to.whole)

fit_ends : (p : Plan) (o : Option Times) → MayEnd p.day o → AreFitEnds p o
fit_ends p None g = tt
fit_ends p (Some t) g = (g.from.few, g.to.few)

whole_part : (p : Plan) (x : Part) → IsGoodPart p.day p.codes x → IsWholePart p x
whole_part p (Work cs) g = tt
whole_part p (Pause code times) g = (g.0, whole_begins p times g.1)

fit_part : (p : Plan) (x : Part) → IsGoodPart p.day p.codes x → IsFitPart p x
fit_part p (Work cs) g = tt
fit_part p (Pause code times) g = fit_begins p times g.1

-- a duty's own stretch, or that of the plan
range_good : (p : Plan) (x : Duty) → AreGoodLengths p.day p.stretch → MayLast p.day x.stretch → AreGoodLengths p.day (stretch_of p x)
range_good p x all g = by x.stretch g
  where
    by : (o : Option Lengths) → MayLast p.day o → AreGoodLengths p.day (elim o [ None ↦ p.stretch | Some range ↦ range ])
    by None h = all
    by (Some range) h = h

whole_duty : (p : Plan) (x : Duty) → AreGoodLengths p.day p.stretch → IsGoodDuty p.day p.codes x → IsWholeDuty p x
whole_duty p x all g = record {
  lasts = whole_lengths p x.lasts g.lasts;
  stretch = whole_lengths p (stretch_of p x) (range_good p x all g.stretch);
  begins = whole_begins p x.begins g.begins;
  ends = whole_ends p x.ends g.ends;
  parts = Each-weaker (IsGoodPart p.day p.codes) (IsWholePart p) x.parts (whole_part p) g.parts;
  plus = g.plus.even;
}

fit_duty : (p : Plan) (x : Duty) → AreGoodLengths p.day p.stretch → IsGoodDuty p.day p.codes x → IsFitDuty p x
fit_duty p x all g = record {
  lasts = fit_lengths p x.lasts g.lasts;
  stretch = fit_lengths p (stretch_of p x) (range_good p x all g.stretch);
  begins = fit_begins p x.begins g.begins;
  ends = fit_ends p x.ends g.ends;
  parts = each_all (IsFitPart p) x.parts (Each-weaker (IsGoodPart p.day p.codes) (IsFitPart p) x.parts (fit_part p) g.parts);
  plus = g.plus.few;
}

whole_code : (p : Plan) (c : PlanCode) → IsGoodCode p.day c → IsWholeCode p c
whole_code p c g = record { lasts = whole_lengths p c.lasts g.lasts; hour = g.hour.even }

fit_code : (p : Plan) (c : PlanCode) → IsGoodCode p.day c → IsFitCode p c
fit_code p c g = record { lasts = fit_lengths p c.lasts g.lasts; hour = g.hour.few }

whole_extra : (p : Plan) (x : Extra) → IsGoodExtra p.day x → IsWholeExtra p x
whole_extra p x g = record { from = g.times.from.whole; to = g.times.to.whole; hour = g.hour.even }

fit_extra : (p : Plan) (x : Extra) → IsGoodExtra p.day x → IsFitExtra p x
fit_extra p x g = record { from = g.times.from.few; to = g.times.to.few; hour = g.hour.few }

-- so many whole periods
whole_is : (n m : ℕ) → 1 ≤ m → IsMultiple n m → n ≡ n / m * m
whole_is n m some (q, e) =
    e ∙ ap (λ (k : ℕ). k * m) (sym (ap (λ (k : ℕ). k / m) e ∙ mul-div_cancel q some))

whole_starts : (p : Plan) (o : Option ℕ) → MayStart p.day o → AreWholeStarts p o
whole_starts p None g = tt
whole_starts p (Some n) g = g.length.whole

few_starts : (p : Plan) (o : Option ℕ) → MayStart p.day o → turned_starts p o ≤ 96
few_starts p None g = omega arith
few_starts p (Some n) g = let few = g.few in omega (arith, few)

first_start : (p : Plan) (o : Option ℕ) → 1 ≤ p.day.minutes → MayStart p.day o → (first : ℕ) × IsFirstStart p o first
first_start p None some g = (0, refl)
first_start p (Some n) some g =
    let m = g.first in
    let is = whole_is n p.day.minutes some g.length.whole in
    let less = m.1 in
    let room = mul-le-mul_right p.day.minutes less in
    (m.0, ((omega (arith, is, room, some)), from_rest (begin_minute p.day + m.0 * p.day.minutes) n m.2))

plan_fit : (p : Plan) → IsGoodPlan p → IsFitPlan p
plan_fit p g =
    let whole : IsWholePlan p = record {
      some = g.day.some;
      day = sym (whole_is (day_length p.day) p.day.minutes g.day.some (from_rest (day_length p.day) p.day.minutes g.day.whole));
      few = g.day.periods;
      codes = Each-weaker (IsGoodCode p.day) (IsWholeCode p) p.codes (whole_code p) g.codes;
      apart = λ b c i j e. one_line p.codes b c g.apart i j e;
      extras = Each-weaker (IsGoodExtra p.day) (IsWholeExtra p) p.extras (whole_extra p) g.extras;
      starts = whole_starts p p.starts g.starts;
      first_start = first_start p p.starts g.day.some g.starts;
      duties = Each-weaker (IsGoodDuty p.day p.codes) (IsWholeDuty p) p.duties (λ y h. whole_duty p y g.stretch h) g.duties;
    } in
    record {
      whole = whole;
      codes = each_all (IsFitCode p) p.codes (Each-weaker (IsGoodCode p.day) (IsFitCode p) p.codes (fit_code p) g.codes);
      extras = each_all (IsFitExtra p) p.extras (Each-weaker (IsGoodExtra p.day) (IsFitExtra p) p.extras (fit_extra p) g.extras);
      starts = few_starts p p.starts g.starts;
      duties = each_all (IsFitDuty p) p.duties (Each-weaker (IsGoodDuty p.day p.codes) (IsFitDuty p) p.duties (λ y h. fit_duty p y g.stretch h) g.duties);
    }

pub read_is_fit : (text : List ℕ) (p : Plan) → plan_of text ≡ Ok p → IsFitPlan p
read_is_fit text p e = plan_fit p (plan_good text p e)
