use Rattle.std.proofs.Common.{◌≡◌, ℕ, arith, length, subst}
use Rattle.tree_findings.specs.declared.finding.Finding.TheVariants.{AbsentTeam}
use Rattle.tree_findings.specs.Findings.{OfTeam, IsAbsentTeam}
use Rattle.tree_findings.specs.Listed.{Adds, OfFirst}
use Rattle.tree_findings.proofs.ListedLemmas.{none-first, first-next, adds-tested}
use Rattle.tree_findings.proofs.demand.add_teams.Goals as goal

pub loop-name-init : goal.loop-name-init
loop-name-init c = none-first (OfTeam c.args.own.now c.args.groups.now) c.args.found.now

pub loop-name-preserved : goal.loop-name-preserved
loop-name-preserved c =
    let n = c.loop-name.name in
    first-next (OfTeam c.args.own.now c.args.groups.now) n c.args.found.now c.loop-name.found c.add_if.new.found c.loop-name.invariant
    (adds-tested c.is_absent_team-absent.result (IsAbsentTeam c.args.own.now c.args.groups.now n) (AbsentTeam n) c.loop-name.found c.add_if.new.found c.is_absent_team-absent.ensures c.in_ok-add_if.ensures)

pub returns : goal.returns
returns c =
    let e : c.loop-name.name ≡ length c.args.own.now.names = omega arith in
    subst (λ (n : ℕ). Adds (OfFirst (OfTeam c.args.own.now c.args.groups.now) n) c.args.found.now c.loop-name.found) e c.loop-name.invariant
