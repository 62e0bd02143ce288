use Rattle.std.proofs.Common.{◌≡◌, ℕ, arith, ◌+◌, List, Some, length, get_or, refl, ap, ◌∙◌, subst}
use Rattle.std.specs.Prelude.{slice_get}
use Rattle.std.proofs.lemmas.Option.{slice_get_read}
use Rattle.model_rosters.specs.declared.grammar.Rule.{Rule}
use Rattle.tree_findings.specs.declared.finding.Finding.TheVariants.{IdleRule}
use Rattle.tree_findings.specs.Findings.{OfIdleRule, IsIdleRule, IsIdle}
use Rattle.tree_findings.specs.Listed.{Adds, OfFirst}
use Rattle.tree_findings.proofs.ListedLemmas.{none-first, first-next, adds-tested, exact-at}
use Rattle.tree_findings.proofs.idle.add_rules.Goals as goal

pub loop-place-init : goal.loop-place-init
loop-place-init c = none-first (OfIdleRule c.args.shifts.now.own.now c.args.shifts.now.day.now) c.args.found.now

pub loop-place-preserved : goal.loop-place-preserved
loop-place-preserved c =
    let own = c.args.shifts.now.own.now in
    let day = c.args.shifts.now.day.now in
    let n = c.loop-place.place in
    let rule = c.index-rules-place.result in
    let long = ap length c.as_slice-rules.ensures in
    let at : slice_get own.rules n ≡ Some rule =
    slice_get_read own.rules (length own.rules) n rule refl (omega (arith, long, c.loop-place-test.true)) (c.index-rules-place.is ∙ ap (λ (xs : List Rule). get_or xs n rule) c.as_slice-rules.ensures) in
    first-next (OfIdleRule own day) n c.args.found.now c.loop-place.found c.add_if.new.found c.loop-place.invariant
    (adds-tested c.is_idle-idle.result (IsIdleRule own day n) (IdleRule (n + 1)) c.loop-place.found c.add_if.new.found
    (exact-at own.rules n rule (IsIdle own day (n + 1)) c.is_idle-idle.result at c.is_idle-idle.ensures) c.in_ok-add_if.ensures)

pub returns : goal.returns
returns c =
    let long = ap length c.as_slice-rules.ensures in
    let e : c.loop-place.place ≡ length c.args.shifts.now.own.now.rules = omega (arith, long, c.loop-place-test.false, c.loop-place.auto.place-end) in
    subst (λ (n : ℕ). Adds (OfFirst (OfIdleRule c.args.shifts.now.own.now c.args.shifts.now.day.now) n) c.args.found.now c.loop-place.found) e c.loop-place.invariant
