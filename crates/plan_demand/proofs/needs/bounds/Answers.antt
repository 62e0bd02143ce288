use Rattle.std.proofs.Common.{◌≡◌, ℕ, ◌≤◌, ◌<◌, ◌++◌, Option, List, length, get_or, ap, sym, ◌∙◌, arith, inl, inr, ltb-false, ltb-true}
use Rattle.std.proofs.lemmas.List.{get_or_default}
use Rattle.plan_meaning.specs.declared.forecast.Column.{Column}
use Rattle.plan_meaning.specs.declared.plan.Need.{Need}
use Rattle.plan_demand.specs.Demands.{bound_of, bounds_by}
use Rattle.plan_demand.proofs.DemandLemmas.{asked_all, bound_more}
use Rattle.plan_demand.proofs.needs.bounds.Goals as goal

pub returns-in_default : goal.returns-in_default
returns-in_default c =
    let same : length c.as_slice-columns.result.now ≡ length c.args.forecast.now.columns = ap (λ (cs : List Column). length cs) c.as_slice-columns.ensures in
    let over : length c.as_slice-columns.result.now ≤ c.loop-place.place = ltb-false _ _ (sym c.in_default.ensures.lookup.0) in
    c.loop-place.invariant
    ∙ ap (bounds_by c.args.grammar.now c.args.plan.now c.args.forecast.now c.args.side)
    (asked_all c.args.plan.now.needs c.args.forecast.now.columns c.loop-place.place (inr (omega (arith, same, over))))

pub loop-place-preserved : goal.loop-place-preserved
loop-place-preserved c =
    let none : Need = record { code = 0; missing = 0; needless = 0 } in
    let line : Need = get_or c.as_slice-line-items.result.now c.loop-place.place none in
    let column : Column = c.in-Some.column.now in
    let lines : length c.as_slice-line-items.result.now ≡ length c.args.plan.now.needs = ap (λ (ns : List Need). length ns) c.as_slice-line-items.ensures in
    let all : length c.as_slice-columns.result.now ≡ length c.args.forecast.now.columns = ap (λ (cs : List Column). length cs) c.as_slice-columns.ensures in
    let within : c.loop-place.place < length c.args.plan.now.needs = omega (arith, lines, c.loop-place-test.true) in
    let found : c.loop-place.place < length c.as_slice-columns.result.now = ltb-true _ _ (sym c.in-Some.ensures.lookup.0) in
    bound_more c.args.grammar.now c.args.plan.now c.args.forecast.now c.args.side c.args.plan.now.needs c.args.forecast.now.columns c.loop-place.place line column
    c.loop-place.bounds c.bound.new.bounds within (omega (arith, all, found))
    (ap (λ (ns : List Need). get_or ns c.loop-place.place none) c.as_slice-line-items.ensures
    ∙ get_or_default c.args.plan.now.needs c.loop-place.place none line within)
    (c.in-Some.ensures.lookup.1 ∙ ap (λ (cs : List Column). get_or cs c.loop-place.place column) c.as_slice-columns.ensures)
    c.loop-place.invariant
    (c.in_ok-bound.ensures
    ∙ ap (λ (o : Option (List ℕ)). c.loop-place.bounds ++ bound_of c.args.grammar.now c.args.plan.now c.args.forecast.now c.args.side line.code o) c.side_of-numbers.ensures)

pub returns : goal.returns
returns c =
    let same : length c.as_slice-line-items.result.now ≡ length c.args.plan.now.needs = ap (λ (ns : List Need). length ns) c.as_slice-line-items.ensures in
    c.loop-place.invariant
    ∙ ap (bounds_by c.args.grammar.now c.args.plan.now c.args.forecast.now c.args.side)
    (asked_all c.args.plan.now.needs c.args.forecast.now.columns c.loop-place.place (inl (omega (arith, same, c.loop-place-test.false))))
