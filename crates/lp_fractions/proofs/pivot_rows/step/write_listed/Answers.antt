use Rattle.std.proofs.Common.{◌≡◌, ℕ, ℤ, ◌<◌, ◌≤◌, ◌^◌, arith, below_more, rules, pos, length, SFits, get_or, get_or-set_other, get_or-set_same, ◌≢◌, unsigned_abs, subst, ap, ◌∙◌}
use Rattle.std.specs.Prelude.{slice_index_or, int_div}
use Rattle.std.specs.Int.{w64, w128}
use Rattle.std.proofs.lemmas.Int.{to_z-of_z}
use Rattle.std.proofs.lemmas.Result.{err_from_is_err_and}
use Rattle.std.proofs.lemmas.List.Elements.{All-set}
use Rattle.lp_fractions.specs.Row.{at}
use Rattle.lp_fractions.specs.pivot_rows.Quotients.{whole}
use Rattle.lp_fractions.proofs.pivot_rows.SparseSteps.{listed_divided, past_end}
use Rattle.lp_fractions.proofs.pivot_rows.step.write_listed.Goals as goal

pub returns-then-place-row-clause-divided : goal.returns-then-place-row-clause-divided
returns-then-place-row-clause-divided c =
    let fp = c.ranges.factor in let fa = c.ranges.entry in
    let i = c.loop-place.place-index in
    let ps = c.args.places.now in
    let past : (j : ℕ) → j < length ps → get_or ps j 0 < length c.args.row.now → j < i = λ j l h. past_end c.args.other.now (length c.args.other.now) ps (length c.args.row.now) i j c.requires.listed (omega arith) l h in
    listed_divided c.args.row.now c.args.factor c.args.other.now c.args.entry ps c.loop-place.row i c.requires.factor.0 c.requires.lengths c.requires.listed
    (simp to_z-of_z at c.loop-place.invariant.done) c.loop-place.invariant.kept past (omega arith)

pub returns-in_err-row-clause-wide : goal.returns-in_err-row-clause-wide
returns-in_err-row-clause-wide c =
    let fp = c.ranges.factor in let fa = c.ranges.entry in
    let i = c.loop-place.place-index in
    let place = get_or c.args.places.now i 0 in
    let fr : SFits w64 (slice_index_or c.loop-place.row place (pos 0)) = search rules in
    let fs : SFits w64 (slice_index_or c.args.other.now place (pos 0)) = search rules in
    let fe : SFits w128 c.combine-number.result = search rules in
    let got = simp to_z-of_z at c.combine-number.ensures.value in
    let wide : 2 ^ 56 < unsigned_abs (int_div c.combine-number.result c.args.factor) = simp to_z-of_z at c.in_err-row.ensures.wide in
    let old = c.loop-place.invariant.kept place (λ j l e. let r = c.requires.listed.rising j i l (omega arith) in omega arith) in
    let here : 2 ^ 56 < unsigned_abs (int_div (whole c.args.row.now c.args.factor c.args.other.now c.args.entry place) c.args.factor) =
    subst (λ (z : ℤ). 2 ^ 56 < unsigned_abs (int_div z c.args.factor)) (rw old at got) wide in
    let p = err_from_is_err_and c.from_residual.result c.from_residual.ensures.1 in
    rw p.1 (place, omega arith, here)

pub loop-place-preserved : goal.loop-place-preserved
loop-place-preserved c =
    let fp = c.ranges.factor in let fa = c.ranges.entry in
    let i = c.loop-place.place-index in
    let ps = c.args.places.now in
    let place = get_or ps i 0 in
    let fr : SFits w64 (slice_index_or c.loop-place.row place (pos 0)) = search rules in
    let fs : SFits w64 (slice_index_or c.args.other.now place (pos 0)) = search rules in
    let fe : SFits w128 c.combine-number.result = search rules in
    let fq : SFits w64 c.in_ok-row.field-0 = search rules in
    let lt : place < length c.loop-place.row = omega arith in
    let got = simp to_z-of_z at c.combine-number.ensures.value in
    let value : c.in_ok-row.field-0 ≡ int_div c.combine-number.result c.args.factor = simp to_z-of_z at c.in_ok-row.ensures.value in
    let old = c.loop-place.invariant.kept place (λ j l e. let r = c.requires.listed.rising j i l (omega arith) in omega arith) in
    let done : (j : ℕ) → j < i → at c.loop-place.row (get_or ps j 0) ≡ int_div (whole c.args.row.now c.args.factor c.args.other.now c.args.entry (get_or ps j 0)) c.args.factor = simp to_z-of_z at c.loop-place.invariant.done in
    let here : c.in_ok-row.field-0 ≡ int_div (whole c.args.row.now c.args.factor c.args.other.now c.args.entry place) c.args.factor =
    value ∙ ap (λ (z : ℤ). int_div z c.args.factor) (rw old at got) in
    simp to_z-of_z (record {
      done = below_more _ _
          (λ j h. let r = c.requires.listed.rising j i h (omega arith) in let ne : get_or ps j 0 ≢ place = λ e. omega arith in rw get_or-set_other (done j h))
          (rw get_or-set_same here);
      kept = λ k free.
          let ne : k ≢ place = λ e. free i (omega arith) (omega arith) in
          rw get_or-set_other (c.loop-place.invariant.kept k (λ j h. free j (omega arith)));
      narrow = All-set (λ (z : ℤ). unsigned_abs z ≤ 2 ^ 56) c.loop-place.row place c.in_ok-row.field-0 c.in_ok-row.ensures.narrow c.loop-place.invariant.narrow;
      counted = search rules;
    })

pub returns-clause-divided : goal.returns-clause-divided
returns-clause-divided c =
    let fp = c.ranges.factor in let fa = c.ranges.entry in
    let i = c.loop-place.place-index in
    let ps = c.args.places.now in
    listed_divided c.args.row.now c.args.factor c.args.other.now c.args.entry ps c.loop-place.row i c.requires.factor.0 c.requires.lengths c.requires.listed
    (simp to_z-of_z at c.loop-place.invariant.done) c.loop-place.invariant.kept (λ j l h. omega arith) (omega arith)
