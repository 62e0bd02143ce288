use Rattle.std.proofs.Common.{arith, ◌≡◌, pos, rules, IfOk}
use Rattle.std.proofs.lemmas.Int.{ints, to_z-of_z}
use Rattle.std.proofs.lemmas.Result.{IfOk-weaker}
use Rattle.lp_fractions.specs.pivot_rows.Rows.{StepsTo}
use Rattle.lp_fractions.proofs.pivot_rows.QuotientsLemmas.{left_primitive, still_steps}
use Rattle.lp_fractions.proofs.pivot_rows.step.step_row.Goals as goal

pub returns-clause-primitive : goal.returns-clause-primitive
returns-clause-primitive c =
    let fp = c.ranges.factor in let fa = c.ranges.entry in
    let step : IfOk c.step_shared.result (λ _. StepsTo c.args.row.now c.args.factor c.args.other.now c.args.entry c.step_shared.new.row) = simp to_z-of_z at c.step_shared.ensures.step in
    IfOk-weaker c.step_shared.result _ _ (λ _. left_primitive c.args.factor c.args.row.now c.args.entry c.args.other.now c.step_shared.new.row (search rules)) step

pub returns-then-entry-eq0-clause-step : goal.returns-then-entry-eq0-clause-step
returns-then-entry-eq0-clause-step c =
    let none : c.args.entry ≡ pos 0 = omega (arith, ints) in
    still_steps c.args.factor c.args.row.now c.args.other.now c.args.entry c.requires.factor.0 none c.requires.primitive
