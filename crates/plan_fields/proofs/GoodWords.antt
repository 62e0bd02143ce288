-- What words that were read say: lengths and times of whole periods, and amounts that come out even.
use Rattle.std.proofs.Common.{◌≡◌, ℕ, ◌+◌, ◌*◌, ◌/◌, ◌%◌, ◌<◌, ◌≤◌, false, not, ◌||◌, min, eqb, ltb, inl, inr, List, Option, Some, None, Result, Ok, Err, sym, ap, ◌∙◌, arith, subst, mul-le-mul_right}
use Rattle.std.proofs.Math.Nat.{div-mul-le_self, le_of_mul-le-mul_right, mul-div_cancel}
use Rattle.std.proofs.Math.Dec.{leb}
use Rattle.std.proofs.lemmas.Bool.{cases_lt, or_parts, ltb-false}
use Rattle.std.proofs.lemmas.Nat.{div-add-mod'}
use Rattle.text_lines.proofs.ListLemmas.{fewer, not_false, same_number}
use Rattle.text_lines.proofs.StepsLemmas.{bind_ok, passed, same_ok}
use Rattle.plan_faults.specs.declared.fault.LineFault.{LineFault}
use Rattle.plan_fields.specs.Steps.{quoted}
use Rattle.plan_meaning.specs.Times.{begin_behind, day_length, end_behind}
use Rattle.plan_meaning.specs.Whole.{IsMultiple}
use Rattle.plan_meaning.specs.declared.plan.PlanDay.{PlanDay}
use Rattle.plan_meaning.specs.declared.plan.Time.{Time}
use Rattle.plan_words.specs.Amounts.{amount_at, hour_at, hour_of}
use Rattle.plan_words.specs.Days.{IsSoundDay}
use Rattle.plan_words.specs.Digits.{clock_of}
use Rattle.plan_words.specs.Lengths.{length_at, length_or, most_periods, whole_length}
use Rattle.plan_words.specs.TimeWords.{begin_at, begin_or, end_at, end_or, time_at}
use Rattle.plan_words.specs.declared.fault.WordFault.{WordFault}

-- a word that was read in a line
pub quoted_ok : {A : Type 0} (w : List ℕ) (r : Result A WordFault) (x : A) → quoted w r ≡ Ok x → r ≡ Ok x
quoted_ok {A} w (Ok y) x e = ap (λ (z : A). Ok z) (same_ok {E = LineFault} y x e)
quoted_ok w (Err f) x e = absurd cc

pub from_rest : (n s : ℕ) → n % s ≡ 0 → IsMultiple n s
from_rest n s e = (n / s, (let all = div-add-mod' n s in omega (arith, all, e)))

-- the test that a rest is none passed
no_rest : (n s : ℕ) → not (eqb (n % s) 0) ≡ false → IsMultiple n s
no_rest n s h = from_rest n s (same_number (n % s) 0 (not_false _ h))

-- a multiple of a period that is not behind the day's end is at most 96 periods
pub few_periods : (d : PlanDay) (n : ℕ) → IsSoundDay d → IsMultiple n d.minutes → n ≤ day_length d → n / d.minutes ≤ 96
few_periods d n sound (q, e) le =
    let whole = from_rest (day_length d) d.minutes sound.whole in
    let all : day_length d / d.minutes ≡ whole.0 = ap (λ (k : ℕ). k / d.minutes) whole.1 ∙ mul-div_cancel whole.0 sound.some in
    let own : n / d.minutes ≡ q = ap (λ (k : ℕ). k / d.minutes) e ∙ mul-div_cancel q sound.some in
    let scaled : q * d.minutes ≤ whole.0 * d.minutes = (let day = whole.1 in omega (arith, e, le, day)) in
    let fits = le_of_mul-le-mul_right scaled sound.some in
    let most = sound.periods in omega (arith, fits, all, own, most)

-- ---- lengths

pub record IsGoodLength (d : PlanDay) (n : ℕ) : Type 0 where
  pub whole : IsMultiple n d.minutes
  pub some : d.minutes ≤ n
  pub few : n / d.minutes ≤ 96

whole_length_is : (d : PlanDay) (found n : ℕ) → IsSoundDay d → whole_length d.minutes (most_periods d) found ≡ Ok n → IsGoodLength d n
unfolding whole_length
whole_length_is d found n sound e =
    let whole = passed _ _ _ _ e in
    let range = passed (ltb (found / d.minutes) 1 || ltb (most_periods d) (found / d.minutes)) _ _ _ whole.1 in
    let parts = or_parts _ _ range.0 in
    let least : 1 ≤ found / d.minutes = ltb-false _ _ parts.0 in
    let most : found / d.minutes ≤ min (day_length d) 1440 / d.minutes = ltb-false _ _ parts.1 in
    let multiple = no_rest found d.minutes whole.0 in
    let count : found / d.minutes ≡ multiple.0 = ap (λ (k : ℕ). k / d.minutes) multiple.1 ∙ mul-div_cancel multiple.0 sound.some in
    let is : found ≡ found / d.minutes * d.minutes = multiple.1 ∙ ap (λ (k : ℕ). k * d.minutes) (sym count) in
    let long = mul-le-mul_right d.minutes least in
    let short = mul-le-mul_right d.minutes most in
    let inside = div-mul-le_self (min (day_length d) 1440) d.minutes in
    let le : found ≤ day_length d = omega (arith, is, short, inside) in
    subst (IsGoodLength d) (same_ok {E = WordFault} found n range.1) (record {
      whole = multiple;
      some = omega (arith, is, long);
      few = few_periods d found sound multiple le;
    })

pub length_is : (d : PlanDay) (w : List ℕ) (n : ℕ) → IsSoundDay d → length_at d w ≡ Ok n → IsGoodLength d n
unfolding length_at
length_is d w n sound e = by (clock_of w) e
  where
    by : (o : Option ℕ) → length_or d o ≡ Ok n → IsGoodLength d n
    by None q = absurd cc
    by (Some found) q = whole_length_is d found n sound q

-- ---- times

pub record IsGoodBegin (d : PlanDay) (t : Time) : Type 0 where
  pub whole : IsMultiple (begin_behind d t) d.minutes
  pub few : begin_behind d t / d.minutes + 1 ≤ 96

pub record IsGoodEnd (d : PlanDay) (t : Time) : Type 0 where
  pub whole : IsMultiple (end_behind d t) d.minutes
  pub few : end_behind d t / d.minutes ≤ 96

begin_in : (d : PlanDay) (s t : Time) → IsSoundDay d → begin_or d (Some s) ≡ Ok t → IsGoodBegin d t
begin_in d s t sound e =
    let inside = passed (leb (day_length d) (begin_behind d s)) _ _ _ e in
    let whole = passed (not (eqb (begin_behind d s % d.minutes) 0)) _ _ _ inside.1 in
    let before : begin_behind d s < day_length d = fewer _ _ inside.0 in
    let multiple = no_rest (begin_behind d s) d.minutes whole.0 in
    let day = from_rest (day_length d) d.minutes sound.whole in
    let next : IsMultiple (begin_behind d s + d.minutes) d.minutes =
    (multiple.0 + 1, (let m = multiple.1 in omega (arith, m)))
    in
    let strictly : multiple.0 < day.0 = strictly_less d.minutes multiple.0 day.0 (let a = multiple.1 in let b = day.1 in omega (arith, a, b, before)) in
    let room = mul-le-mul_right d.minutes strictly in
    let le : begin_behind d s + d.minutes ≤ day_length d = (let a = multiple.1 in let b = day.1 in omega (arith, a, b, room)) in
    let most = few_periods d (begin_behind d s + d.minutes) sound next le in
    let count : begin_behind d s / d.minutes ≡ multiple.0 = ap (λ (k : ℕ). k / d.minutes) multiple.1 ∙ mul-div_cancel multiple.0 sound.some in
    let more : (begin_behind d s + d.minutes) / d.minutes ≡ multiple.0 + 1 = ap (λ (k : ℕ). k / d.minutes) next.1 ∙ mul-div_cancel (multiple.0 + 1) sound.some in
    subst (IsGoodBegin d) (same_ok {E = WordFault} s t whole.1) (record { whole = multiple; few = omega (arith, most, count, more) })
  where
    strictly_less : (m a b : ℕ) → a * m < b * m → a < b
    strictly_less m a b lt = elim (cases_lt a b) [
      | inl less ↦ less
      | inr ge ↦ (let over = mul-le-mul_right m ge in absurd (omega (arith, over, lt)))
    ]

pub begin_is : (d : PlanDay) (w : List ℕ) (t : Time) → IsSoundDay d → begin_at d w ≡ Ok t → IsGoodBegin d t
unfolding begin_at
begin_is d w t sound e = by (time_at w) e
  where
    by : (o : Option Time) → begin_or d o ≡ Ok t → IsGoodBegin d t
    by None q = absurd cc
    by (Some s) q = begin_in d s t sound q

end_in : (d : PlanDay) (s t : Time) → IsSoundDay d → end_or d (Some s) ≡ Ok t → IsGoodEnd d t
end_in d s t sound e =
    let inside = passed (ltb (day_length d) (end_behind d s)) _ _ _ e in
    let whole = passed (not (eqb (end_behind d s % d.minutes) 0)) _ _ _ inside.1 in
    let multiple = no_rest (end_behind d s) d.minutes whole.0 in
    subst (IsGoodEnd d) (same_ok {E = WordFault} s t whole.1)
    (record { whole = multiple; few = few_periods d (end_behind d s) sound multiple (ltb-false _ _ inside.0) })

pub end_is : (d : PlanDay) (w : List ℕ) (t : Time) → IsSoundDay d → end_at d w ≡ Ok t → IsGoodEnd d t
unfolding end_at
end_is d w t sound e = by (time_at w) e
  where
    by : (o : Option Time) → end_or d o ≡ Ok t → IsGoodEnd d t
    by None q = absurd cc
    by (Some s) q = end_in d s t sound q

-- ---- amounts

pub record IsGoodHour (d : PlanDay) (n : ℕ) : Type 0 where
  pub even : IsMultiple (n * d.minutes) 60
  pub few : n * d.minutes / 60 ≤ 10000

hour_in : (d : PlanDay) (decimals units n : ℕ) → hour_of decimals d.minutes units ≡ Ok n → IsGoodHour d n
unfolding hour_of
hour_in d decimals units n e =
    let even = passed (not (eqb (units * d.minutes % 60) 0)) _ _ _ e in
    let most = passed (ltb 10000 (units * d.minutes / 60)) _ _ _ even.1 in
    subst (IsGoodHour d) (same_ok {E = WordFault} units n most.1)
    (record { even = no_rest (units * d.minutes) 60 even.0; few = ltb-false _ _ most.0 })

pub hour_is : (d : PlanDay) (decimals n : ℕ) (w : List ℕ) → hour_at d.minutes decimals w ≡ Ok n → IsGoodHour d n
unfolding hour_at
hour_is d decimals n w e =
    let units = bind_ok (amount_at decimals w) _ _ e in
    hour_in d decimals units.0 n units.2
