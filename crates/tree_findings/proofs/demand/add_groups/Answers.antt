use Rattle.std.proofs.Common.{◌≡◌, ℕ, arith, length, get_or, subst}
use Rattle.std.proofs.lemmas.Option.{slice_get-get_or}
use Rattle.model_rosters.specs.declared.instance.Group.{Group}
use Rattle.tree_findings.specs.declared.finding.Finding.TheVariants.{StrangeGroup}
use Rattle.tree_findings.specs.Findings.{OfGroup, IsStrangeGroup}
use Rattle.tree_findings.specs.Listed.{Adds, OfFirst}
use Rattle.tree_findings.proofs.ListedLemmas.{none-first, first-next, adds-tested, adds-at}
use Rattle.tree_findings.proofs.demand.add_groups.Goals as goal

pub loop-place-init : goal.loop-place-init
loop-place-init c = none-first (OfGroup c.args.shifts.now.own.now c.args.shifts.now.day.now c.args.groups.now) c.args.found.now

pub loop-place-preserved : goal.loop-place-preserved
loop-place-preserved c =
    let own = c.args.shifts.now.own.now in
    let day = c.args.shifts.now.day.now in
    let n = c.loop-place.place in
    let none : Group = record { name = 0; heads_min = 0; heads_max = 0 } in
    let group = get_or c.args.groups.now n none in
    first-next (OfGroup own day c.args.groups.now) n c.args.found.now c.loop-place.found c.add_if.new.found c.loop-place.invariant
    (adds-at c.args.groups.now n group (IsStrangeGroup own day) (λ (x : Group). StrangeGroup x.name) c.loop-place.found c.add_if.new.found (slice_get-get_or c.args.groups.now n none c.loop-place-test.true)
    (adds-tested c.is_strange.result (IsStrangeGroup own day group) (StrangeGroup group.name) c.loop-place.found c.add_if.new.found c.is_strange.ensures c.in_ok-add_if.ensures))

pub returns : goal.returns
returns c =
    let e : c.loop-place.place ≡ length c.args.groups.now = omega arith in
    subst (λ (n : ℕ). Adds (OfFirst (OfGroup c.args.shifts.now.own.now c.args.shifts.now.day.now c.args.groups.now) n) c.args.found.now c.loop-place.found) e c.loop-place.invariant
