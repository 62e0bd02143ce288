-- What pairs of words that were read say.
use Rattle.std.proofs.Common.{◌≡◌, ℕ, ◌≤◌, ltb, List, Ok, subst}
use Rattle.std.proofs.Math.Dec.{leb}
use Rattle.std.proofs.lemmas.Bool.{ltb-false}
use Rattle.text_lines.proofs.StepsLemmas.{bind_ok, passed, same_ok}
use Rattle.plan_faults.specs.declared.fault.LineFault.{LineFault}
use Rattle.plan_fields.proofs.GoodWords.{quoted_ok, IsGoodLength, length_is, IsGoodBegin, begin_is, IsGoodEnd, end_is}
use Rattle.plan_fields.specs.Pairs.{lengths_at, begins_at, ends_at, span_at}
use Rattle.plan_fields.specs.Steps.{quoted}
use Rattle.plan_meaning.specs.Times.{begin_behind, end_behind}
use Rattle.plan_meaning.specs.declared.plan.Lengths.{Lengths}
use Rattle.plan_meaning.specs.declared.plan.PlanDay.{PlanDay}
use Rattle.plan_meaning.specs.declared.plan.Times.{Times}
use Rattle.plan_words.specs.Days.{IsSoundDay}
use Rattle.plan_words.specs.Lengths.{length_at}
use Rattle.plan_words.specs.TimeWords.{begin_at, end_at}

pub record AreGoodLengths (d : PlanDay) (x : Lengths) : Type 0 where
  pub least : IsGoodLength d x.least
  pub greatest : IsGoodLength d x.greatest
  pub ordered : x.least ≤ x.greatest

pub record AreGoodBegins (d : PlanDay) (x : Times) : Type 0 where
  pub from : IsGoodBegin d x.from
  pub to : IsGoodBegin d x.to

pub record AreGoodEnds (d : PlanDay) (x : Times) : Type 0 where
  pub from : IsGoodEnd d x.from
  pub to : IsGoodEnd d x.to

pub record IsGoodSpan (d : PlanDay) (x : Times) : Type 0 where
  pub from : IsGoodBegin d x.from
  pub to : IsGoodEnd d x.to

pub lengths_are : (d : PlanDay) (w v : List ℕ) (x : Lengths) → IsSoundDay d → lengths_at d w v ≡ Ok x → AreGoodLengths d x
unfolding lengths_at
lengths_are d w v x sound e =
    let a = bind_ok (quoted w (length_at d w)) _ _ e in
    let b = bind_ok (quoted v (length_at d v)) _ _ a.2 in
    let c = passed (ltb b.0 a.0) _ _ _ b.2 in
    subst (AreGoodLengths d) (same_ok {E = LineFault} (record { least = a.0; greatest = b.0 }) x c.1) (record {
      least = length_is d w a.0 sound (quoted_ok w _ _ a.1);
      greatest = length_is d v b.0 sound (quoted_ok v _ _ b.1);
      ordered = ltb-false _ _ c.0;
    })

pub begins_are : (d : PlanDay) (w v : List ℕ) (x : Times) → IsSoundDay d → begins_at d w v ≡ Ok x → AreGoodBegins d x
unfolding begins_at
begins_are d w v x sound e =
    let a = bind_ok (quoted w (begin_at d w)) _ _ e in
    let b = bind_ok (quoted v (begin_at d v)) _ _ a.2 in
    let c = passed (ltb (begin_behind d b.0) (begin_behind d a.0)) _ _ _ b.2 in
    subst (AreGoodBegins d) (same_ok {E = LineFault} (record { from = a.0; to = b.0 }) x c.1) (record {
      from = begin_is d w a.0 sound (quoted_ok w _ _ a.1);
      to = begin_is d v b.0 sound (quoted_ok v _ _ b.1);
    })

pub ends_are : (d : PlanDay) (w v : List ℕ) (x : Times) → IsSoundDay d → ends_at d w v ≡ Ok x → AreGoodEnds d x
unfolding ends_at
ends_are d w v x sound e =
    let a = bind_ok (quoted w (end_at d w)) _ _ e in
    let b = bind_ok (quoted v (end_at d v)) _ _ a.2 in
    let c = passed (ltb (end_behind d b.0) (end_behind d a.0)) _ _ _ b.2 in
    subst (AreGoodEnds d) (same_ok {E = LineFault} (record { from = a.0; to = b.0 }) x c.1) (record {
      from = end_is d w a.0 sound (quoted_ok w _ _ a.1);
      to = end_is d v b.0 sound (quoted_ok v _ _ b.1);
    })

pub span_is : (d : PlanDay) (w v : List ℕ) (x : Times) → IsSoundDay d → span_at d w v ≡ Ok x → IsGoodSpan d x
unfolding span_at
span_is d w v x sound e =
    let a = bind_ok (quoted w (begin_at d w)) _ _ e in
    let b = bind_ok (quoted v (end_at d v)) _ _ a.2 in
    let c = passed (leb (end_behind d b.0) (begin_behind d a.0)) _ _ _ b.2 in
    subst (IsGoodSpan d) (same_ok {E = LineFault} (record { from = a.0; to = b.0 }) x c.1) (record {
      from = begin_is d w a.0 sound (quoted_ok w _ _ a.1);
      to = end_is d v b.0 sound (quoted_ok v _ _ b.1);
    })
