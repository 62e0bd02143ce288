use Rattle.std.proofs.Common.{length, SFits, rules, IfOk, IfErr}
use Rattle.std.specs.Int.{w128}
use Rattle.std.proofs.lemmas.Int.{to_z-of_z}
use Rattle.std.proofs.lemmas.Result.{IfOk-weaker, IfErr-weaker}
use Rattle.law_bounds.specs.linear_programs.RowStep.{IsCommonFactor}
use Rattle.lp_fractions.specs.pivot_rows.Quotients.{AreDivided, IsWideDivided, whole}
use Rattle.lp_fractions.proofs.pivot_rows.QuotientsLemmas.{divided_steps, divided_wide}
use Rattle.lp_fractions.proofs.pivot_rows.step.step_numbers.Goals as goal

pub returns-clause-step : goal.returns-clause-step
returns-clause-step c =
    let fp = c.ranges.factor in let fa = c.ranges.entry in
    let fg : SFits w128 c.divisor_of.result = search rules in
    let factor : IsCommonFactor (whole c.args.row.now c.args.factor c.args.other.now c.args.entry) (length c.args.row.now) c.common_factor-common.result =
    rw c.numbers.ensures at (simp to_z-of_z at c.common_factor-common.ensures.value) in
    let divided : IfOk c.write_step.result (λ _. AreDivided c.args.row.now c.args.factor c.args.other.now c.args.entry c.divisor_of.result c.write_step.new.row) =
    simp to_z-of_z at c.write_step.ensures.divided in
    IfOk-weaker c.write_step.result _ _ (λ _. divided_steps c.args.factor c.args.row.now c.args.entry c.args.other.now c.common_factor-common.result factor c.divisor_of.result c.divisor_of.ensures.value c.write_step.new.row) divided

pub returns-clause-wide : goal.returns-clause-wide
returns-clause-wide c =
    let fp = c.ranges.factor in let fa = c.ranges.entry in
    let fg : SFits w128 c.divisor_of.result = search rules in
    let factor : IsCommonFactor (whole c.args.row.now c.args.factor c.args.other.now c.args.entry) (length c.args.row.now) c.common_factor-common.result =
    rw c.numbers.ensures at (simp to_z-of_z at c.common_factor-common.ensures.value) in
    let wide : IfErr c.write_step.result (λ _. IsWideDivided c.args.row.now c.args.factor c.args.other.now c.args.entry c.divisor_of.result) =
    simp to_z-of_z at c.write_step.ensures.wide in
    IfErr-weaker c.write_step.result _ _ (λ _. divided_wide c.args.factor c.args.row.now c.args.entry c.args.other.now c.common_factor-common.result factor c.divisor_of.result c.divisor_of.ensures.value) wide
