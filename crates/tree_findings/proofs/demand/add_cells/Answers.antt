use Rattle.std.proofs.Common.{◌≡◌, ℕ, arith, length, get_or, subst}
use Rattle.std.proofs.lemmas.Option.{slice_get-get_or}
use Rattle.model_rosters.specs.declared.instance.Cell.{Cell}
use Rattle.tree_findings.specs.declared.finding.Finding.TheVariants.{VainNeed}
use Rattle.tree_findings.specs.Findings.{OfCell, IsVainNeed}
use Rattle.tree_findings.specs.Listed.{Adds, OfFirst}
use Rattle.tree_findings.proofs.ListedLemmas.{none-first, first-next, adds-tested, adds-at}
use Rattle.tree_findings.proofs.demand.add_cells.Goals as goal

pub loop-place-init : goal.loop-place-init
loop-place-init c = none-first (OfCell c.args.shifts.now.own.now c.args.shifts.now.day.now c.args.cells.now) c.args.found.now

pub loop-place-preserved : goal.loop-place-preserved
loop-place-preserved c =
    let own = c.args.shifts.now.own.now in
    let day = c.args.shifts.now.day.now in
    let n = c.loop-place.place in
    let none : Cell = record { code = 0; period = 0; need = 0; under = 0; over = 0; floor = 0; ceiling = 0 } in
    let cell = get_or c.args.cells.now n none in
    first-next (OfCell own day c.args.cells.now) n c.args.found.now c.loop-place.found c.add_if.new.found c.loop-place.invariant
    (adds-at c.args.cells.now n cell (IsVainNeed own day) (λ (x : Cell). VainNeed x.code x.period) c.loop-place.found c.add_if.new.found (slice_get-get_or c.args.cells.now n none c.loop-place-test.true)
    (adds-tested c.is_vain.result (IsVainNeed own day cell) (VainNeed cell.code cell.period) c.loop-place.found c.add_if.new.found c.is_vain.ensures c.in_ok-add_if.ensures))

pub returns : goal.returns
returns c =
    let e : c.loop-place.place ≡ length c.args.cells.now = omega arith in
    subst (λ (n : ℕ). Adds (OfFirst (OfCell c.args.shifts.now.own.now c.args.shifts.now.day.now c.args.cells.now) n) c.args.found.now c.loop-place.found) e c.loop-place.invariant
