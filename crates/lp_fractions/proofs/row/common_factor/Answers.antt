use Rattle.std.proofs.Common.{◌≡◌, arith, subst, below_more, rules, pos, length, SFits, unsigned_abs}
use Rattle.std.specs.Prelude.{slice_index_or}
use Rattle.std.specs.Int.{w128, IsGcd}
use Rattle.std.proofs.lemmas.Int.{to_z-of_z}
use Rattle.lp_fractions.specs.Row.{new_at, FitsBelow}
use Rattle.law_bounds.specs.linear_programs.RowStep.{IsCommonFactor}
use Rattle.lp_fractions.proofs.Rows.{IsCommonFactor-more}
use Rattle.lp_fractions.proofs.row.common_factor.Goals as goal

pub returns-in-None-clause-wide : goal.returns-in-None-clause-wide
returns-in-None-clause-wide c =
    let fp = c.ranges.p in let fa = c.ranges.a in
    let fr : SFits w128 (slice_index_or c.args.row.now c.loop-j.j (pos 0)) = search rules in
    let fs : SFits w128 (slice_index_or c.args.other.now c.loop-j.j (pos 0)) = search rules in
    record { within = omega arith; before = simp to_z-of_z at c.loop-j.invariant.fits; wide = simp to_z-of_z at c.in-None.ensures }

pub loop-j-preserved : goal.loop-j-preserved
loop-j-preserved c =
    let fp = c.ranges.p in let fa = c.ranges.a in
    let fr : SFits w128 (slice_index_or c.args.row.now c.loop-j.j (pos 0)) = search rules in
    let fs : SFits w128 (slice_index_or c.args.other.now c.loop-j.j (pos 0)) = search rules in
    let fe : SFits w128 c.in-Some.entry = search rules in
    let got = simp to_z-of_z at c.in-Some.ensures in
    let g : IsGcd c.loop-j.factor (unsigned_abs c.in-Some.entry) c.next_factor-factor.result = simp to_z-of_z at c.next_factor-factor.ensures.value in
    let fits : FitsBelow c.args.p c.args.row.now c.args.a c.args.other.now c.loop-j.j = simp to_z-of_z at c.loop-j.invariant.fits in
    let factor : IsCommonFactor (new_at c.args.p c.args.row.now c.args.a c.args.other.now) c.loop-j.j c.loop-j.factor = simp to_z-of_z at c.loop-j.invariant.factor in
    simp to_z-of_z (record {
      fits = below_more _ _ fits got.0;
      factor = IsCommonFactor-more _ _ _ _ factor (subst (λ e. IsGcd c.loop-j.factor (unsigned_abs e) c.next_factor-factor.result) got.1 g);
      bound = c.next_factor-factor.ensures.bound;
    })

pub returns-clause-factor : goal.returns-clause-factor
returns-clause-factor c =
    let fp = c.ranges.p in let fa = c.ranges.a in
    let e : c.loop-j.j ≡ length c.args.row.now = omega arith in
    let fits : FitsBelow c.args.p c.args.row.now c.args.a c.args.other.now c.loop-j.j = simp to_z-of_z at c.loop-j.invariant.fits in
    let factor : IsCommonFactor (new_at c.args.p c.args.row.now c.args.a c.args.other.now) c.loop-j.j c.loop-j.factor = simp to_z-of_z at c.loop-j.invariant.factor in (
      subst (FitsBelow c.args.p c.args.row.now c.args.a c.args.other.now) e fits,
      subst (λ n. IsCommonFactor (new_at c.args.p c.args.row.now c.args.a c.args.other.now) n c.loop-j.factor) e factor,
    )
