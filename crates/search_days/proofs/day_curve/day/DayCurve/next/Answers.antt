use Rattle.std.proofs.Common.{ℕ, arith, List, Option, IfOk, IfSome, ap, subst}
use Rattle.search_primal.specs.OldRosters.{IsNoDearerThan}
use Rattle.search_branch_price.specs.declared.found.Found.{Found}
use Rattle.model_rosters.specs.declared.instance.Shift.{Shift}
use Rattle.search_branch_price.specs.Found.{AreCounted}
use Rattle.search_days.specs.day_curve.Curves.{CurveView, point_day, IsNextPoint}
use Rattle.search_days.proofs.day_curve.CurvePoints.{counted-point, offered-point, solved-point}
use Rattle.search_days.proofs.day_curve.day.DayCurve.next.Goals as goal

pub returns-clause-counted : goal.returns-clause-counted
returns-clause-counted g c =
    let counted = subst (λ (o : Option Found). IfSome o (AreCounted (point_day c.next.new.self) (g.M.Master.refused c.args.master.now) (g.M.Master.refused c.next.new.master))) c.in-Some.is c.in_ok-found.ensures.counted in
    counted-point c.next.new.self c.written.new.self (g.M.Master.refused c.args.master.now) (g.M.Master.refused c.next.new.master) c.in-Some.found c.written.result
    counted c.written.ensures.given c.written.ensures.written

pub written-requires-clause-found : goal.written-requires-clause-found
written-requires-clause-found g c =
    let point = subst (λ (o : Option Found). IsNextPoint c.self.inside.curve c.next.new.self (g.M.Master.strict c.args.master.now) (g.W.Watch.patient c.args.watch.now) c.args.turns o) c.in-Some.is c.in_ok-found.ensures.point in
    let found = point.2 in
    let few = found.few in
    let most = c.requires.few in
    (g.M.Master.strict c.args.master.now, found.used, omega (arith, few, most), found.holds)

pub returns-clause-solution : goal.returns-clause-solution
returns-clause-solution g c =
    let point = subst (λ (o : Option Found). IsNextPoint c.self.inside.curve c.next.new.self (g.M.Master.strict c.args.master.now) (g.W.Watch.patient c.args.watch.now) c.args.turns o) c.in-Some.is c.in_ok-found.ensures.point in
    solved-point c.next.new.self c.written.new.self (g.M.Master.strict c.args.master.now) (g.W.Watch.patient c.args.watch.now) c.args.turns c.in-Some.found c.written.result
    point.2 c.written.ensures.given c.written.ensures.written

pub returns-clause-falls : goal.returns-clause-falls
returns-clause-falls g c =
    let kept = c.self.inside.curve.kept in
    let falls = subst (λ (o : Option Found). IfSome o (λ f. IsNoDearerThan (point_day c.next.new.self) kept f.cert.cost)) c.in-Some.is c.in_ok-found.ensures.falls in
    subst (λ (ks : List Shift). IfOk c.written.result (λ s. IsNoDearerThan (point_day c.written.new.self) ks s.found.cert.cost)) (ap (λ (v : CurveView). v.kept) c.self.view_is)
    (offered-point c.next.new.self c.written.new.self kept c.in-Some.found c.written.result falls c.written.ensures.given c.written.ensures.written)
