use Rattle.std.proofs.Common.{◌≡◌, ◌+◌, arith, subst, rules, pos, length, SFits, unsigned_abs}
use Rattle.std.specs.Prelude.{slice_index_or}
use Rattle.std.specs.Int.{w64, w128, IsGcd}
use Rattle.std.proofs.lemmas.Int.{to_z-of_z}
use Rattle.law_bounds.specs.linear_programs.RowStep.{IsCommonFactor}
use Rattle.lp_fractions.proofs.Rows.{IsCommonFactor-more}
use Rattle.lp_fractions.specs.pivot_rows.Quotients.{whole}
use Rattle.lp_fractions.proofs.pivot_rows.Factors.{factor_one}
use Rattle.lp_fractions.proofs.pivot_rows.step.common_factor.Goals as goal

pub returns-then-common-eq1-clause-value : goal.returns-then-common-eq1-clause-value
returns-then-common-eq1-clause-value c =
    let fp = c.ranges.factor in let fa = c.ranges.entry in
    let fr : SFits w64 (slice_index_or c.args.row.now c.loop-place.place (pos 0)) = search rules in
    let fs : SFits w64 (slice_index_or c.args.other.now c.loop-place.place (pos 0)) = search rules in
    let fe : SFits w128 c.combine.result = search rules in
    let got = simp to_z-of_z at c.combine.ensures.value in
    let g : IsGcd c.loop-place.common (unsigned_abs c.combine.result) c.next_factor-common.result = simp to_z-of_z at c.next_factor-common.ensures.value in
    let f = whole c.args.row.now c.args.factor c.args.other.now c.args.entry in
    let so_far : IsCommonFactor f c.loop-place.place c.loop-place.common = simp to_z-of_z at c.loop-place.invariant.value in
    let more = IsCommonFactor-more f c.loop-place.place c.loop-place.common c.next_factor-common.result so_far (subst (λ e. IsGcd c.loop-place.common (unsigned_abs e) c.next_factor-common.result) got g) in
    factor_one f (c.loop-place.place + 1) (length c.args.row.now) (omega arith) (subst (IsCommonFactor f (c.loop-place.place + 1)) c.if-common-eq1.true more)

pub loop-place-preserved : goal.loop-place-preserved
loop-place-preserved c =
    let fp = c.ranges.factor in let fa = c.ranges.entry in
    let fr : SFits w64 (slice_index_or c.args.row.now c.loop-place.place (pos 0)) = search rules in
    let fs : SFits w64 (slice_index_or c.args.other.now c.loop-place.place (pos 0)) = search rules in
    let fe : SFits w128 c.combine.result = search rules in
    let got = simp to_z-of_z at c.combine.ensures.value in
    let g : IsGcd c.loop-place.common (unsigned_abs c.combine.result) c.next_factor-common.result = simp to_z-of_z at c.next_factor-common.ensures.value in
    let f = whole c.args.row.now c.args.factor c.args.other.now c.args.entry in
    let so_far : IsCommonFactor f c.loop-place.place c.loop-place.common = simp to_z-of_z at c.loop-place.invariant.value in
    simp to_z-of_z (record {
      value = IsCommonFactor-more f c.loop-place.place c.loop-place.common c.next_factor-common.result so_far (subst (λ e. IsGcd c.loop-place.common (unsigned_abs e) c.next_factor-common.result) got g);
      size = c.next_factor-common.ensures.size;
    })

pub returns-clause-value : goal.returns-clause-value
returns-clause-value c =
    let fp = c.ranges.factor in let fa = c.ranges.entry in
    let f = whole c.args.row.now c.args.factor c.args.other.now c.args.entry in
    let e : c.loop-place.place ≡ length c.args.row.now = omega arith in
    let so_far : IsCommonFactor f c.loop-place.place c.loop-place.common = simp to_z-of_z at c.loop-place.invariant.value in
    subst (λ n. IsCommonFactor f n c.loop-place.common) e so_far
