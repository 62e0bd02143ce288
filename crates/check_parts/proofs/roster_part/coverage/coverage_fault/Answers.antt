use Rattle.std.proofs.Common.{◌≡◌, ◌+◌, ◌<◌, Some, get_or, length, ap, refl, sym, inl, inr, arith}
use Rattle.std.specs.Prelude.{slice_get}
use Rattle.std.proofs.lemmas.Option.{slice_get-get_or}
use Rattle.model_rosters.specs.declared.instance.Cell.{Cell}
use Rattle.model_rosters.specs.Coverage.{covered, IsWithinCell}
use Rattle.model_rosters.proofs.SoundCells.{cells_of_day}
use Rattle.check_certificates.specs.RosterCauses.{duties, IsOutside}
use Rattle.check_parts.proofs.roster_part.FaultsLemmas.{never_outside}
use Rattle.check_parts.proofs.roster_part.Items.{before-all, before-next, first-here}
use Rattle.check_parts.proofs.roster_part.coverage.coverage_fault.Goals as goal
use Rattle.check_parts.proofs.roster_part.coverage.coverage_fault.Goals.{then-have-cell-via-then-have-cell, then-have-cell-via-else-have-cell+then-cell-have}

abbrev no_cell : Cell
no_cell = record { code = 0; period = 0; need = 0; under = 0; over = 0; floor = 0; ceiling = 0 }

pub coverage-have-requires-clause-cell : goal.coverage-have-requires-clause-cell
coverage-have-requires-clause-cell c =
    let i = c.args.instance.now in
    let k = c.loop-cell.cell-index in
    let there : k < length i.cells = omega (arith, ap length c.as_slice-cell-items.ensures, c.loop-cell-test.true) in
    rw c.as_slice-cell-items.ensures (cells_of_day i.grammar i.cells c.requires.sound.cells k no_cell there)

pub code_byte-requires : goal.code_byte-requires
code_byte-requires c =
    let i = c.args.instance.now in
    let k = c.loop-cell.cell-index in
    let there : k < length i.cells = omega (arith, ap length c.as_slice-cell-items.ensures, c.loop-cell-test.true) in
    rw c.as_slice-cell-items.ensures (cells_of_day i.grammar i.cells c.requires.sound.cells k no_cell there)

pub returns-then-have-cell : goal.returns-then-have-cell
returns-then-have-cell c =
    let i = c.args.instance.now in
    let ds = duties c.args.shifts.now in
    let e = c.as_slice-cell-items.ensures in
    let k = c.loop-cell.cell-index in
    let there : k < length i.cells = omega (arith, ap length e, c.loop-cell-test.true) in
    let cell : Cell = get_or i.cells k no_cell in
    let here : slice_get i.cells k ≡ Some cell = slice_get-get_or i.cells k no_cell there in
    let have : c.coverage-have.result ≡ covered i.grammar cell ds = rw e at c.coverage-have.ensures.value in
    let byte = rw e at c.code_byte.ensures in
    let out : IsOutside i ds cell =
    elim c.then-have-cell.branch [
      | then-have-cell-via-then-have-cell w ↦ let l : c.coverage-have.result < cell.floor = rw e at w.if-have-cell.true in inl (omega (arith, have, l))
      | then-have-cell-via-else-have-cell+then-cell-have w ↦ let l : cell.ceiling < c.coverage-have.result = rw e at w.if-cell-have.true in inr (omega (arith, have, l))
    ] in
    rw e
    (record {
      place = k + 1;
      cell = cell;
      first = first-here (IsOutside i ds) (λ (x : Cell). IsWithinCell x (covered i.grammar x ds)) i.cells k cell here out (never_outside i ds) c.loop-cell.invariant.before;
      code = sym byte;
      when = refl;
      count = sym have;
    })

pub loop-cell-preserved : goal.loop-cell-preserved
loop-cell-preserved c =
    let i = c.args.instance.now in
    let ds = duties c.args.shifts.now in
    let e = c.as_slice-cell-items.ensures in
    let k = c.loop-cell.cell-index in
    let there : k < length i.cells = omega (arith, ap length e, c.loop-cell-test.true) in
    let cell : Cell = get_or i.cells k no_cell in
    let here : slice_get i.cells k ≡ Some cell = slice_get-get_or i.cells k no_cell there in
    let have : c.coverage-have.result ≡ covered i.grammar cell ds = rw e at c.coverage-have.ensures.value in
    let low = rw e at c.if-have-cell.false in
    let high = rw e at c.if-cell-have.false in
    record {
      before =
          before-next (λ (x : Cell). IsWithinCell x (covered i.grammar x ds)) i.cells k cell here
          (record { floor = omega (arith, have, low); ceiling = omega (arith, have, high) }) c.loop-cell.invariant.before;
      counter = c.coverage-have.ensures.counter;
    }

pub returns : goal.returns
returns c =
    let i = c.args.instance.now in
    let ds = duties c.args.shifts.now in
    before-all (λ (x : Cell). IsWithinCell x (covered i.grammar x ds)) i.cells c.loop-cell.cell-index (omega (arith, ap length c.as_slice-cell-items.ensures, c.loop-cell-test.false)) c.loop-cell.invariant.before
