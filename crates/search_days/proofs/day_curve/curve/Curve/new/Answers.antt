use Rattle.std.proofs.Common.{ℕ, ◌<◌, ◌^◌, sym, subst, rules}
use Rattle.search_days.specs.day_curve.Staffs.{with_heads}
use Rattle.search_days.proofs.day_curve.CurveDays.{begins-fits, begins-view, curve-begins}
use Rattle.search_days.proofs.day_curve.curve.Curve.new.Goals as goal

pub set_heads-requires-clause-fits : goal.set_heads-requires-clause-fits
set_heads-requires-clause-fits c = subst (λ (n : ℕ). (with_heads c.args.staff c.args.instance n).heads_max < 2 ^ 32) (sym c.first_heads-first.ensures) (begins-fits c.args.instance c.args.staff c.requires.sound c.requires.staff)

pub invariant_of-result : goal.invariant_of-result
invariant_of-result c =
    rw (c.set_heads.ensures, c.first_heads-first.ensures, c.staff_most-most.ensures, c.new.ensures, c.new-2.ensures) (curve-begins c.args.instance c.args.staff c.requires.sound c.requires.staff (search rules))

pub returns : goal.returns
returns c =
    rw (c.set_heads.ensures, c.first_heads-first.ensures, c.staff_most-most.ensures, c.new-2.ensures) (begins-view c.args.instance c.args.staff c.requires.sound c.requires.staff)
