use Rattle.std.proofs.Common.{◌≡◌, SFits, rules, ◌*ℤ◌, unsigned_abs, IfOk, IfErr}
use Rattle.std.specs.Int.{w128, IsGcd}
use Rattle.std.proofs.lemmas.Int.{to_z-of_z}
use Rattle.std.proofs.lemmas.Result.{IfOk-weaker, IfErr-weaker}
use Rattle.lp_fractions.specs.pivot_rows.Rows.{IsWideStep, StepsTo}
use Rattle.lp_fractions.proofs.pivot_rows.QuotientsLemmas.{shared_positive, shared_steps, shared_wide}
use Rattle.lp_fractions.proofs.pivot_rows.step.step_shared.Goals as goal

pub shared_out-factor_left-requires-clause-positive : goal.shared_out-factor_left-requires-clause-positive
shared_out-factor_left-requires-clause-positive c =
    let fp = c.ranges.factor in let fa = c.ranges.entry in
    let fs : SFits w128 c.gcd-shared.result = search rules in
    let g : IsGcd (unsigned_abs c.args.factor) (unsigned_abs c.args.entry) (unsigned_abs c.gcd-shared.result) = simp to_z-of_z at c.gcd-shared.ensures.value in
    simp to_z-of_z (shared_positive c.args.factor c.args.entry c.gcd-shared.result c.requires.factor.0 c.gcd-shared.ensures.sign g)

pub shared_out-factor_left-requires-clause-divides : goal.shared_out-factor_left-requires-clause-divides
shared_out-factor_left-requires-clause-divides c =
    let fp = c.ranges.factor in let fa = c.ranges.entry in
    let fs : SFits w128 c.gcd-shared.result = search rules in
    let g : IsGcd (unsigned_abs c.args.factor) (unsigned_abs c.args.entry) (unsigned_abs c.gcd-shared.result) = simp to_z-of_z at c.gcd-shared.ensures.value in
    simp to_z-of_z g.0

pub shared_out-entry_left-requires-clause-divides : goal.shared_out-entry_left-requires-clause-divides
shared_out-entry_left-requires-clause-divides c =
    let fp = c.ranges.factor in let fa = c.ranges.entry in
    let fs : SFits w128 c.gcd-shared.result = search rules in
    let g : IsGcd (unsigned_abs c.args.factor) (unsigned_abs c.args.entry) (unsigned_abs c.gcd-shared.result) = simp to_z-of_z at c.gcd-shared.ensures.value in
    simp to_z-of_z g.1

pub returns-clause-step : goal.returns-clause-step
returns-clause-step c =
    let fp = c.ranges.factor in let fa = c.ranges.entry in
    let fs : SFits w128 c.gcd-shared.result = search rules in
    let fq : SFits w128 c.shared_out-factor_left.result = search rules in
    let fb : SFits w128 c.shared_out-entry_left.result = search rules in
    let g : IsGcd (unsigned_abs c.args.factor) (unsigned_abs c.args.entry) (unsigned_abs c.gcd-shared.result) = simp to_z-of_z at c.gcd-shared.ensures.value in
    let positive = shared_positive c.args.factor c.args.entry c.gcd-shared.result c.requires.factor.0 c.gcd-shared.ensures.sign g in
    let e : c.gcd-shared.result *ℤ c.shared_out-factor_left.result ≡ c.args.factor = simp to_z-of_z at c.shared_out-factor_left.ensures.value in
    let f : c.gcd-shared.result *ℤ c.shared_out-entry_left.result ≡ c.args.entry = simp to_z-of_z at c.shared_out-entry_left.ensures.value in
    let step : IfOk c.step_numbers.result (λ _. StepsTo c.args.row.now c.shared_out-factor_left.result c.args.other.now c.shared_out-entry_left.result c.step_numbers.new.row) = simp to_z-of_z at c.step_numbers.ensures.step in
    IfOk-weaker c.step_numbers.result _ _ (λ _. shared_steps c.args.row.now c.args.other.now c.gcd-shared.result c.args.factor c.args.entry c.shared_out-factor_left.result c.shared_out-entry_left.result positive e f c.step_numbers.new.row) step

pub returns-clause-wide : goal.returns-clause-wide
returns-clause-wide c =
    let fp = c.ranges.factor in let fa = c.ranges.entry in
    let fs : SFits w128 c.gcd-shared.result = search rules in
    let fq : SFits w128 c.shared_out-factor_left.result = search rules in
    let fb : SFits w128 c.shared_out-entry_left.result = search rules in
    let g : IsGcd (unsigned_abs c.args.factor) (unsigned_abs c.args.entry) (unsigned_abs c.gcd-shared.result) = simp to_z-of_z at c.gcd-shared.ensures.value in
    let positive = shared_positive c.args.factor c.args.entry c.gcd-shared.result c.requires.factor.0 c.gcd-shared.ensures.sign g in
    let e : c.gcd-shared.result *ℤ c.shared_out-factor_left.result ≡ c.args.factor = simp to_z-of_z at c.shared_out-factor_left.ensures.value in
    let f : c.gcd-shared.result *ℤ c.shared_out-entry_left.result ≡ c.args.entry = simp to_z-of_z at c.shared_out-entry_left.ensures.value in
    let wide : IfErr c.step_numbers.result (λ _. IsWideStep c.args.row.now c.shared_out-factor_left.result c.args.other.now c.shared_out-entry_left.result) = simp to_z-of_z at c.step_numbers.ensures.wide in
    IfErr-weaker c.step_numbers.result _ _ (λ _. shared_wide c.args.row.now c.args.other.now c.gcd-shared.result c.args.factor c.args.entry c.shared_out-factor_left.result c.shared_out-entry_left.result positive e f) wide
