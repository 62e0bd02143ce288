use Rattle.std.specs.Fmt.{decimal}
use Rattle.model_rosters.specs.declared.instance.Cell.{Cell}
use Rattle.text_demand.specs.Written.{number_of}
use Rattle.text_lines.proofs.WrittenLemmas.{one_more}
use Rattle.text_demand.proofs.number_of.numbers.Goals as goal

abbrev nothing : Cell
nothing = record { code = 0; period = 0; need = 0; under = 0; over = 0; floor = 0; ceiling = 0 }

pub loop-cell-preserved : goal.loop-cell-preserved
loop-cell-preserved c =
    one_more (λ (x : Cell). decimal (number_of c.args.which x)) c.args.cells.now c.loop-cell.cell-index nothing c.args.out.now c.loop-cell.out c.field.new.out
    c.loop-cell-test.true c.loop-cell.invariant (rw c.number_of.ensures at c.in_ok-field.ensures)
