use Rattle.std.proofs.Common.{◌≡◌, ℕ, arith, length, subst}
use Rattle.tree_findings.specs.declared.finding.Finding.TheVariants.{IdleCode}
use Rattle.tree_findings.specs.Findings.{OfIdleCode, IsIdleCode}
use Rattle.tree_findings.specs.Listed.{Adds, OfFirst}
use Rattle.tree_findings.proofs.ListedLemmas.{none-first, first-next, adds-tested}
use Rattle.tree_findings.proofs.idle.add_codes.Goals as goal

pub loop-code-init : goal.loop-code-init
loop-code-init c = none-first (OfIdleCode c.args.shifts.now.own.now c.args.shifts.now.day.now) c.args.found.now

pub loop-code-preserved : goal.loop-code-preserved
loop-code-preserved c =
    let own = c.args.shifts.now.own.now in
    let day = c.args.shifts.now.day.now in
    let n = c.loop-code.code in
    first-next (OfIdleCode own day) n c.args.found.now c.loop-code.found c.add_if.new.found c.loop-code.invariant
    (adds-tested c.is_idle_code-idle.result (IsIdleCode own day n) (IdleCode n) c.loop-code.found c.add_if.new.found c.is_idle_code-idle.ensures c.in_ok-add_if.ensures)

pub returns : goal.returns
returns c =
    let e : c.loop-code.code ≡ length c.args.shifts.now.own.now.codes = omega arith in
    subst (λ (n : ℕ). Adds (OfFirst (OfIdleCode c.args.shifts.now.own.now c.args.shifts.now.day.now) n) c.args.found.now c.loop-code.found) e c.loop-code.invariant
