use Rattle.std.proofs.Common.{◌≡◌, ◌<◌, ℕ, List, [], arith, refl, sym, subst, ◌∙◌, rules}
use Rattle.std.proofs.lemmas.Result.{err_from_is_err_and}
use Rattle.model_rosters.specs.declared.instance.Shift.{Shift}
use Rattle.search_days.specs.day_curve.Curves.{points_of}
use Rattle.command_searches.specs.Points.{FindsFirst}
use Rattle.command_searches.specs.Solve.{lent}
use Rattle.command_searches.proofs.PointLemmas.{first-none, next-curve, next-found, next-broken, none-begun}
use Rattle.command_searches.proofs.curve.all_points.Goals as goal

pub loop-init : goal.loop-init
loop-init g c =
    let curve = c.args.curve.now in
    let told = g.S.Shelf.told c.args.shelf.now in
    let strict = g.M.Master.strict c.args.master.now in
    let refused = g.M.Master.refused c.args.master.now in
    record {
      first = rw c.in-Ok.ensures.items (subst (λ (k : List Shift). FindsFirst curve.day curve.staff c.args.proof.now (lent strict refused refused) c.args.limit 0 k told told []) (sym c.requires.free)
          (first-none curve.day curve.staff c.args.proof.now strict c.args.limit refused told));
      curve = subst (λ (n : ℕ). curve ≡ record curve { given = n; kept = curve.kept }) c.requires.none refl;
      strict = refl;
      room = search rules;
      many = search rules;
    }

pub returns-in_default : goal.returns-in_default
returns-in_default g c =
    none-begun c.args.curve.now.day c.args.curve.now.staff c.args.proof.now (g.M.Master.strict c.args.master.now) c.args.limit (g.M.Master.refused c.args.master.now) (g.M.Master.refused c.args.master.now) (g.S.Shelf.told c.args.shelf.now) c.requires.points

pub returns-in_err-point : goal.returns-in_err-point
returns-in_err-point g c =
    let fewer : c.loop.counter < points_of c.args.curve.now = omega (arith, c.points-count.ensures, c.loop-test.true) in
    let p = err_from_is_err_and c.from_residual.result c.from_residual.ensures.1 in
    rw (p.1, p.2) (next-broken c.args.curve.now c.loop.curve c.loop.counter c.loop.invariant.curve c.args.proof.now (g.M.Master.strict c.loop.master) (g.M.Master.strict c.args.master.now) c.args.limit
    (g.M.Master.refused c.args.master.now) (g.M.Master.refused c.loop.master) (g.M.Master.refused c.next_point.new.master)
    (g.S.Shelf.told c.args.shelf.now) (g.S.Shelf.told c.loop.shelf) (g.S.Shelf.told c.next_point.new.shelf) c.loop.points.items _
    fewer c.loop.invariant.first c.in_err-point.ensures.point)

pub loop-preserved : goal.loop-preserved
loop-preserved g c =
    let found = c.in_ok-point.ensures.point in
    record {
      first = rw c.push_reserved.ensures.items (next-found c.args.curve.now c.loop.curve c.loop.counter c.loop.invariant.curve c.args.proof.now (g.M.Master.strict c.loop.master) (g.M.Master.strict c.args.master.now) c.args.limit
          (g.M.Master.refused c.args.master.now) (g.M.Master.refused c.loop.master) (g.M.Master.refused c.next_point.new.master)
          (g.S.Shelf.told c.args.shelf.now) (g.S.Shelf.told c.loop.shelf) (g.S.Shelf.told c.next_point.new.shelf) c.loop.points.items c.next_point.new.curve c.in_ok-point.point
          c.loop.invariant.strict c.loop.invariant.first found);
      curve = next-curve c.args.curve.now c.loop.curve c.loop.counter c.loop.invariant.curve c.next_point.new.curve found.found.cert.shifts found.next;
      strict = c.in_ok-point.ensures.strict_stays ∙ c.loop.invariant.strict;
      room = search rules;
      many = search rules;
    }
