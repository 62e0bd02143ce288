use Rattle.std.proofs.Common.{◌≡◌, ℕ, ℤ, ◌<◌, ◌≤◌, ◌^◌, arith, below_more, rules, pos, length, SFits, get_or-set_other, get_or-set_same, ◌≢◌, unsigned_abs, subst, ap, ◌∙◌}
use Rattle.std.specs.Prelude.{slice_index_or, int_div}
use Rattle.std.specs.Int.{w64, w128}
use Rattle.std.proofs.lemmas.Int.{to_z-of_z}
use Rattle.std.proofs.lemmas.Result.{err_from_is_err_and}
use Rattle.std.proofs.lemmas.List.Elements.{All-set}
use Rattle.lp_fractions.specs.Row.{at}
use Rattle.lp_fractions.specs.pivot_rows.Quotients.{whole}
use Rattle.lp_fractions.proofs.pivot_rows.step.write_all.Goals as goal

pub returns-in_err-row-clause-wide : goal.returns-in_err-row-clause-wide
returns-in_err-row-clause-wide c =
    let fp = c.ranges.factor in let fa = c.ranges.entry in let fg = c.ranges.divisor in
    let fr : SFits w64 (slice_index_or c.loop-place.row c.loop-place.place (pos 0)) = search rules in
    let fs : SFits w64 (slice_index_or c.args.other.now c.loop-place.place (pos 0)) = search rules in
    let fe : SFits w128 c.combine-number.result = search rules in
    let got = simp to_z-of_z at c.combine-number.ensures.value in
    let wide : 2 ^ 56 < unsigned_abs (int_div c.combine-number.result c.args.divisor) = simp to_z-of_z at c.in_err-row.ensures.wide in
    let old = c.loop-place.invariant.rest c.loop-place.place (omega arith) in
    let here : 2 ^ 56 < unsigned_abs (int_div (whole c.args.row.now c.args.factor c.args.other.now c.args.entry c.loop-place.place) c.args.divisor) =
    subst (λ (z : ℤ). 2 ^ 56 < unsigned_abs (int_div z c.args.divisor)) (rw old at got) wide in
    let p = err_from_is_err_and c.from_residual.result c.from_residual.ensures.1 in
    rw p.1 (c.loop-place.place, omega arith, here)

pub loop-place-preserved : goal.loop-place-preserved
loop-place-preserved c =
    let fp = c.ranges.factor in let fa = c.ranges.entry in let fg = c.ranges.divisor in
    let fr : SFits w64 (slice_index_or c.loop-place.row c.loop-place.place (pos 0)) = search rules in
    let fs : SFits w64 (slice_index_or c.args.other.now c.loop-place.place (pos 0)) = search rules in
    let fe : SFits w128 c.combine-number.result = search rules in
    let fq : SFits w64 c.in_ok-row.field-0 = search rules in
    let lt : c.loop-place.place < length c.loop-place.row = omega arith in
    let got = simp to_z-of_z at c.combine-number.ensures.value in
    let value : c.in_ok-row.field-0 ≡ int_div c.combine-number.result c.args.divisor = simp to_z-of_z at c.in_ok-row.ensures.value in
    let old = c.loop-place.invariant.rest c.loop-place.place (omega arith) in
    let done : (k : ℕ) → k < c.loop-place.place → at c.loop-place.row k ≡ int_div (whole c.args.row.now c.args.factor c.args.other.now c.args.entry k) c.args.divisor = simp to_z-of_z at c.loop-place.invariant.done in
    let here : c.in_ok-row.field-0 ≡ int_div (whole c.args.row.now c.args.factor c.args.other.now c.args.entry c.loop-place.place) c.args.divisor =
    value ∙ ap (λ (z : ℤ). int_div z c.args.divisor) (rw old at got) in
    simp to_z-of_z (record {
      done = below_more _ _
          (λ k h. let ne : k ≢ c.loop-place.place = omega arith in rw get_or-set_other (done k h))
          (rw get_or-set_same here);
      rest = λ k h. let ne : k ≢ c.loop-place.place = omega arith in rw get_or-set_other (c.loop-place.invariant.rest k (omega arith));
      narrow = All-set (λ (z : ℤ). unsigned_abs z ≤ 2 ^ 56) c.loop-place.row c.loop-place.place c.in_ok-row.field-0 c.in_ok-row.ensures.narrow c.loop-place.invariant.narrow;
      counted = search rules;
    })
