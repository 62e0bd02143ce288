-- Plans whose numbers of periods are at most 96, and in which a period costs at most 10,000 units.
use Rattle.std.specs.Prelude.{ℕ, ◌≤◌, ◌+◌, All, Option, None, Some}
use Rattle.plan_meaning.specs.declared.plan.Duty.{Duty}
use Rattle.plan_meaning.specs.declared.plan.Extra.{Extra}
use Rattle.plan_meaning.specs.declared.plan.Lengths.{Lengths}
use Rattle.plan_meaning.specs.declared.plan.Part.{Part}
use Rattle.plan_meaning.specs.declared.plan.Part.TheVariants.{Pause, Work}
use Rattle.plan_meaning.specs.declared.plan.Plan.{Plan}
use Rattle.plan_meaning.specs.declared.plan.PlanCode.{PlanCode}
use Rattle.plan_meaning.specs.declared.plan.Time.{Time}
use Rattle.plan_meaning.specs.declared.plan.Times.{Times}
use Rattle.plan_meaning.specs.Shifts.{stretch_of}
use Rattle.plan_meaning.specs.Times.{begin_behind, end_behind}
use Rattle.plan_meaning.specs.Whole.{IsWholePlan}
use Rattle.plan_laws.specs.Turned.{count_of, per_period, turned_starts}

-- the period that begins at the time
abbrev pub begin_period : Plan → Time → ℕ
begin_period p t = count_of p (begin_behind p.day t) + 1

-- the period that ends at the time
abbrev pub end_period : Plan → Time → ℕ
end_period p t = count_of p (end_behind p.day t)

abbrev pub IsFitBegin : Plan → Time → Type 0
IsFitBegin p t = begin_period p t ≤ 96

abbrev pub IsFitEnd : Plan → Time → Type 0
IsFitEnd p t = end_period p t ≤ 96

pub record AreFitLengths (p : Plan) (x : Lengths) : Type 0 where
  pub least : count_of p x.least ≤ 96
  pub greatest : count_of p x.greatest ≤ 96

abbrev pub AreFitBegins : Plan → Option Times → Type 0
AreFitBegins p None = Unit {0}
AreFitBegins p (Some t) = IsFitBegin p t.from × IsFitBegin p t.to

abbrev pub AreFitEnds : Plan → Option Times → Type 0
AreFitEnds p None = Unit {0}
AreFitEnds p (Some t) = IsFitEnd p t.from × IsFitEnd p t.to

pub record IsFitCode (p : Plan) (c : PlanCode) : Type 0 where
  pub lasts : AreFitLengths p c.lasts
  pub hour : per_period p c.hour ≤ 10000

pub record IsFitExtra (p : Plan) (e : Extra) : Type 0 where
  pub from : IsFitBegin p e.times.from
  pub to : IsFitEnd p e.times.to
  pub hour : per_period p e.hour ≤ 10000

abbrev pub IsFitPart : Plan → Part → Type 0
IsFitPart p (Work codes) = Unit {0}
IsFitPart p (Pause code times) = AreFitBegins p times

pub record IsFitDuty (p : Plan) (d : Duty) : Type 0 where
  pub lasts : AreFitLengths p d.lasts
  pub stretch : AreFitLengths p (stretch_of p d)
  pub begins : AreFitBegins p d.begins
  pub ends : AreFitEnds p d.ends
  pub parts : All (IsFitPart p) d.parts
  pub plus : per_period p d.plus ≤ 10000

-- all numbers of a plan of whole periods are small
pub record IsFitPlan (p : Plan) : Type 0 where
  pub whole : IsWholePlan p
  pub codes : All (IsFitCode p) p.codes
  pub extras : All (IsFitExtra p) p.extras
  pub starts : turned_starts p p.starts ≤ 96
  pub duties : All (IsFitDuty p) p.duties
