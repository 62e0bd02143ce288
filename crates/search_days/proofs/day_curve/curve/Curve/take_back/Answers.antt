use Rattle.std.proofs.Common.{◌≡◌, ℕ, arith, ◌+◌, ◌-◌, ◌≤◌, List, sym, ap, subst, ◌∙◌}
use Rattle.model_rosters.specs.declared.instance.Instance.{Instance}
use Rattle.search_days.specs.day_curve.Curves.{CurveView, IsCurve, first_heads}
use Rattle.search_days.proofs.day_curve.CurveDays.{few-now, first-fits, fits-at, given-fits, most-few, turned, turned-view, view_of}
use Rattle.search_days.proofs.day_curve.curve.Curve.take_back.Goals as goal

pub overflow_add-heads : goal.overflow_add-heads
overflow_add-heads c =
    let i = c.self.inside in
    let few = most-few i.instance i.staff i.most i.given i.pool i.kept c.self.invariant in
    let first = first-fits i.instance i.staff i.most i.given i.pool i.kept c.self.invariant in
    let fits = given-fits i.instance i.staff i.most i.given i.pool i.kept c.self.invariant in
    omega (arith, few, first, fits, c.first_heads-first.ensures, c.saturating_sub.ensures)

pub set_heads-requires-clause-few : goal.set_heads-requires-clause-few
set_heads-requires-clause-few c = let i = c.self.inside in few-now i.instance i.staff i.most i.given i.pool i.kept c.self.invariant

pub set_heads-requires-clause-fits : goal.set_heads-requires-clause-fits
set_heads-requires-clause-fits c =
    let i = c.self.inside in
    let first = first-fits i.instance i.staff i.most i.given i.pool i.kept c.self.invariant in
    let fits = given-fits i.instance i.staff i.most i.given i.pool i.kept c.self.invariant in
    fits-at i.instance i.staff i.most i.given i.pool i.kept c.self.invariant (c.first_heads-first.result + c.saturating_sub.result) (omega (arith, c.first_heads-first.ensures)) (omega (arith, first, fits, c.first_heads-first.ensures, c.saturating_sub.ensures))

pub invariant_of-self : goal.invariant_of-self
invariant_of-self c =
    let i = c.self.inside in
    let within = c.self.invariant.within in
    subst (λ (d : Instance). IsCurve d i.staff i.most (i.given - 1) i.pool i.kept) (sym c.set_heads.ensures)
    (turned i.instance i.staff i.most i.given i.pool i.kept c.self.invariant (c.first_heads-first.result + c.saturating_sub.result) (i.given - 1) i.pool (omega (arith, within)) (omega (arith, c.first_heads-first.ensures, c.saturating_sub.ensures)) c.self.invariant.trees)

pub returns : goal.returns
returns c =
    let i = c.self.inside in
    ap (λ (d : Instance). view_of d i.staff i.most (i.given - 1) i.kept) c.set_heads.ensures ∙ turned-view i.instance i.staff i.most i.given i.pool i.kept c.self.invariant (c.first_heads-first.result + c.saturating_sub.result) (i.given - 1)
    ∙ ap (λ (v : CurveView). record v { given = v.given - 1 }) c.self.view_is
