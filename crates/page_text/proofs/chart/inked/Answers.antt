use Rattle.page_text.specs.Charts.{code_ink}
use Rattle.page_text.specs.declared.column.CellCover.{CellCover}
use Rattle.page_parts.proofs.ElementsLemmas.{more}
use Rattle.page_text.proofs.chart.inked.Goals as goal

abbrev nothing : CellCover
nothing = record { code = 0; period = 0; need = 0; have = 0; short = 0; over = 0; floor = 0; ceiling = 0; penalty = 0 }

pub loop-column-preserved : goal.loop-column-preserved
loop-column-preserved c =
    more (code_ink c.args.ink c.args.sheet c.args.unit c.args.code) c.args.columns.now c.loop-column.column-index nothing c.args.out.now c.loop-column.out c.code_ink.new.out
    c.loop-column-test.true c.loop-column.invariant c.in_ok-code_ink.ensures
