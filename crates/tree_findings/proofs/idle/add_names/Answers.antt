use Rattle.std.proofs.Common.{◌≡◌, ℕ, arith, length, subst}
use Rattle.tree_findings.specs.declared.finding.Finding.TheVariants.{IdleName}
use Rattle.tree_findings.specs.Findings.{OfIdleName, IsIdleName}
use Rattle.tree_findings.specs.Listed.{Adds, OfFirst}
use Rattle.tree_findings.proofs.ListedLemmas.{none-first, first-next, adds-tested}
use Rattle.tree_findings.proofs.idle.add_names.Goals as goal

pub loop-name-init : goal.loop-name-init
loop-name-init c = none-first (OfIdleName c.args.shifts.now.own.now c.args.shifts.now.day.now) c.args.found.now

pub loop-name-preserved : goal.loop-name-preserved
loop-name-preserved c =
    let own = c.args.shifts.now.own.now in
    let day = c.args.shifts.now.day.now in
    let n = c.loop-name.name in
    first-next (OfIdleName own day) n c.args.found.now c.loop-name.found c.add_if.new.found c.loop-name.invariant
    (adds-tested c.is_idle_name-idle.result (IsIdleName own day n) (IdleName n) c.loop-name.found c.add_if.new.found c.is_idle_name-idle.ensures c.in_ok-add_if.ensures)

pub returns : goal.returns
returns c =
    let e : c.loop-name.name ≡ length c.args.shifts.now.own.now.names = omega arith in
    subst (λ (n : ℕ). Adds (OfFirst (OfIdleName c.args.shifts.now.own.now c.args.shifts.now.day.now) n) c.args.found.now c.loop-name.found) e c.loop-name.invariant
