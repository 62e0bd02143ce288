use Rattle.std.proofs.Common.{rules, ◌≡◌, ℕ, arith, ◌+◌, ◌-◌, ◌≤◌, List, sym, ap, subst, ◌∙◌}
use Rattle.model_rosters.specs.declared.instance.Instance.{Instance}
use Rattle.model_rosters.specs.declared.instance.Shift.{Shift}
use Rattle.model_rosters.specs.SoundInstance.{IsSoundInstance}
use Rattle.search_primal.specs.OldRosters.{IsNoDearerThan}
use Rattle.search_branch_price.specs.Found.{IsFound, AreCounted}
use Rattle.search_watch.specs.Within.{IsWithin}
use Rattle.std.proofs.Common.{Some}
use Rattle.tree_pool.specs.Pools.{IsPool}
use Rattle.search_days.specs.day_curve.Curves.{CurveView, IsCurve, IsNextPoint, first_heads, point_day, points_of}
use Rattle.search_days.specs.day_curve.Staffs.{IsStaff, staff_most, with_heads}
use Rattle.search_days.proofs.day_curve.CurveDays.{count-of, few-now, first-fits, fits-at, given-fits, most-few, next-day, point-found, same-day, sound-at, sound-now, turned, view_of}
use Rattle.search_days.proofs.day_curve.StaffDays.{few-groups, heads-again, shifts-of, staff-of}
use Rattle.search_days.proofs.day_curve.curve.Curve.next.Goals as goal

pub overflow_add-heads : goal.overflow_add-heads
overflow_add-heads g c =
    let i = c.self.inside in
    let few = most-few i.instance i.staff i.most i.given i.pool i.kept c.self.invariant in
    let fits = given-fits i.instance i.staff i.most i.given i.pool i.kept c.self.invariant in
    omega (arith, few, fits, c.first_heads.ensures)

pub returns-then-heads-self-clause-point : goal.returns-then-heads-self-clause-point
returns-then-heads-self-clause-point g c =
    let i = c.self.inside in
    let fits = given-fits i.instance i.staff i.most i.given i.pool i.kept c.self.invariant in
    let count = count-of i.staff i.instance i.most c.self.invariant.counted in
    (subst (λ (v : CurveView). v.given ≡ points_of v) c.self.view_is (omega (arith, fits, count, c.first_heads.ensures, c.if-heads-self.true)), cc)

pub set_heads-requires-clause-few : goal.set_heads-requires-clause-few
set_heads-requires-clause-few g c = let i = c.self.inside in few-now i.instance i.staff i.most i.given i.pool i.kept c.self.invariant

pub set_heads-requires-clause-fits : goal.set_heads-requires-clause-fits
set_heads-requires-clause-fits g c = let i = c.self.inside in fits-at i.instance i.staff i.most i.given i.pool i.kept c.self.invariant (c.first_heads.result + i.given) (omega (arith, c.first_heads.ensures)) c.if-heads-self.false

pub search_from-found-requires-clause-task : goal.search_from-found-requires-clause-task
search_from-found-requires-clause-task g c =
    let i = c.self.inside in
    record {
      day = record {
        sound = subst (λ (d : Instance). IsSoundInstance d) (sym c.set_heads.ensures) (sound-at i.instance i.staff i.most i.given i.pool i.kept c.self.invariant (c.first_heads.result + i.given) (omega (arith, c.first_heads.ensures)) c.if-heads-self.false);
        graph = search rules;
      };
      some = c.requires.some;
      few = c.requires.few;
      shifts = rw (c.as_slice.ensures, c.set_heads.ensures) (shifts-of i.staff i.instance (c.first_heads.result + i.given) i.kept c.self.invariant.shifts);
      few_shifts = rw c.as_slice.ensures c.self.invariant.few;
    }

pub invariant_of-self : goal.invariant_of-self
invariant_of-self g c =
    let i = c.self.inside in
    let count = count-of i.staff i.instance i.most c.self.invariant.counted in
    let trees = subst (λ (d : Instance). IsPool d.grammar c.search_from-found.new.pool) c.set_heads.ensures c.search_from-found.ensures.pool.are in
    subst (λ (d : Instance). IsCurve d i.staff i.most (i.given + 1) c.search_from-found.new.pool i.kept) (sym c.set_heads.ensures)
    (turned i.instance i.staff i.most i.given i.pool i.kept c.self.invariant (c.first_heads.result + i.given) (i.given + 1) c.search_from-found.new.pool (omega (arith, count, c.first_heads.ensures, c.if-heads-self.false)) (omega (arith, c.first_heads.ensures)) trees)

pub set_heads-requires-in-Err-clause-staff : goal.set_heads-requires-in-Err-clause-staff
set_heads-requires-in-Err-clause-staff g c =
    let i = c.self.inside in
    subst (λ (d : Instance). IsStaff d i.staff) (sym c.set_heads.ensures) (staff-of i.staff i.instance (c.first_heads.result + i.given) c.self.invariant.counted)

pub set_heads-requires-in-Err-clause-few : goal.set_heads-requires-in-Err-clause-few
set_heads-requires-in-Err-clause-few g c =
    let i = c.self.inside in
    let sound = sound-at i.instance i.staff i.most i.given i.pool i.kept c.self.invariant (c.first_heads.result + i.given) (omega (arith, c.first_heads.ensures)) c.if-heads-self.false in
    few-groups c.set_heads.new.instance (subst (λ (d : Instance). IsSoundInstance d) (sym c.set_heads.ensures) sound)

pub set_heads-requires-in-Err-clause-fits : goal.set_heads-requires-in-Err-clause-fits
set_heads-requires-in-Err-clause-fits g c =
    let i = c.self.inside in
    let day : with_heads i.staff c.set_heads.new.instance c.staff_most-last.result ≡ i.instance =
    ap (λ (d : Instance). with_heads i.staff d c.staff_most-last.result) c.set_heads.ensures ∙ heads-again i.staff i.instance (c.first_heads.result + i.given) c.staff_most-last.result
    ∙ ap (λ (n : ℕ). with_heads i.staff i.instance n) c.staff_most-last.ensures ∙ same-day i.instance i.staff i.most i.given i.pool i.kept c.self.invariant in
    let sound = sound-now i.instance i.staff i.most i.given i.pool i.kept c.self.invariant in
    let few = sound.few in
    let same = ap (λ (d : Instance). d.heads_max) day in
    omega (arith, few, same)

pub invariant_of-self-in-Err : goal.invariant_of-self-in-Err
invariant_of-self-in-Err g c =
    let i = c.self.inside in
    let h = c.self.invariant in
    let day : c.set_heads-in-Err.new.instance ≡ i.instance =
    c.set_heads-in-Err.ensures ∙ ap (λ (d : Instance). with_heads i.staff d c.staff_most-last.result) c.set_heads.ensures ∙ heads-again i.staff i.instance (c.first_heads.result + i.given) c.staff_most-last.result
    ∙ ap (λ (n : ℕ). with_heads i.staff i.instance n) c.staff_most-last.ensures ∙ same-day i.instance i.staff i.most i.given i.pool i.kept c.self.invariant in
    let trees = subst (λ (d : Instance). IsPool d.grammar c.search_from-found.new.pool) c.set_heads.ensures c.search_from-found.ensures.pool.are in
    subst (λ (d : Instance). IsCurve d i.staff i.most i.given c.search_from-found.new.pool i.kept) (sym day)
    (record { sound = h.sound; counted = h.counted; within = h.within; heads = h.heads; trees = trees; shifts = h.shifts; few = h.few })

pub returns-in-Err-clause-point : goal.returns-in-Err-clause-point
returns-in-Err-clause-point g c =
    let i = c.self.inside in
    let day : c.set_heads-in-Err.new.instance ≡ i.instance =
    c.set_heads-in-Err.ensures ∙ ap (λ (d : Instance). with_heads i.staff d c.staff_most-last.result) c.set_heads.ensures ∙ heads-again i.staff i.instance (c.first_heads.result + i.given) c.staff_most-last.result
    ∙ ap (λ (n : ℕ). with_heads i.staff i.instance n) c.staff_most-last.ensures ∙ same-day i.instance i.staff i.most i.given i.pool i.kept c.self.invariant in
    ap (λ (d : Instance). view_of d i.staff i.most i.given i.kept) day ∙ c.self.view_is

pub returns-in-Ok-clause-point : goal.returns-in-Ok-clause-point
returns-in-Ok-clause-point g c =
    let i = c.self.inside in
    let strict = g.M.Master.strict c.args.master.now in
    let patient = g.W.Watch.patient c.args.watch.now in
    let turns = c.args.turns in
    let found = subst (λ (d : Instance). IsWithin patient turns (λ k. IsFound d strict k c.in-Ok.found)) c.set_heads.ensures c.in-Ok.ensures.found.found in
    let next = point-found i.instance i.staff i.most i.given i.pool i.kept c.self.invariant (c.first_heads.result + i.given) strict patient turns c.in-Ok.found (omega (arith, c.first_heads.ensures)) c.if-heads-self.false found in
    subst (λ (v : CurveView). IsNextPoint v (view_of c.set_heads.new.instance i.staff i.most (i.given + 1) i.kept) strict patient turns (Some c.in-Ok.found)) c.self.view_is
    (subst (λ (d : Instance). IsNextPoint (view_of i.instance i.staff i.most i.given i.kept) (view_of d i.staff i.most (i.given + 1) i.kept) strict patient turns (Some c.in-Ok.found)) (sym c.set_heads.ensures) next)

pub returns-in-Ok-clause-falls : goal.returns-in-Ok-clause-falls
returns-in-Ok-clause-falls g c =
    let i = c.self.inside in
    let day : point_day (view_of c.set_heads.new.instance i.staff i.most (i.given + 1) i.kept) ≡ c.set_heads.new.instance =
    ap (λ (d : Instance). point_day (view_of d i.staff i.most (i.given + 1) i.kept)) c.set_heads.ensures ∙ next-day i.instance i.staff i.most i.given i.pool i.kept c.self.invariant (c.first_heads.result + i.given) (omega (arith, c.first_heads.ensures)) ∙ sym c.set_heads.ensures in
    let kept : c.as_slice.result.now ≡ c.args.self.now.kept = c.as_slice.ensures ∙ ap (λ (v : CurveView). v.kept) c.self.view_is in
    subst (λ (d : Instance). IsNoDearerThan d c.args.self.now.kept c.in-Ok.found.cert.cost) (sym day)
    (subst (λ (ks : List Shift). IsNoDearerThan c.set_heads.new.instance ks c.in-Ok.found.cert.cost) kept c.in-Ok.ensures.found.falls)

pub returns-in-Ok-clause-counted : goal.returns-in-Ok-clause-counted
returns-in-Ok-clause-counted g c =
    let i = c.self.inside in
    let day : point_day (view_of c.set_heads.new.instance i.staff i.most (i.given + 1) i.kept) ≡ c.set_heads.new.instance =
    ap (λ (d : Instance). point_day (view_of d i.staff i.most (i.given + 1) i.kept)) c.set_heads.ensures ∙ next-day i.instance i.staff i.most i.given i.pool i.kept c.self.invariant (c.first_heads.result + i.given) (omega (arith, c.first_heads.ensures)) ∙ sym c.set_heads.ensures in
    subst (λ (d : Instance). AreCounted d (g.M.Master.refused c.args.master.now) (g.M.Master.refused c.search_from-found.new.master) c.in-Ok.found) (sym day) c.in-Ok.ensures.found.counted
