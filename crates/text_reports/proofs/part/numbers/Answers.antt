use Rattle.std.specs.Fmt.{decimal}
use Rattle.text_lines.proofs.WrittenLemmas.{one_more}
use Rattle.text_reports.specs.declared.cover.Cover.{Cover}
use Rattle.text_reports.specs.ReportText.{part_of}
use Rattle.text_reports.proofs.part.numbers.Goals as goal

abbrev nothing : Cover
nothing = record { need = 0; have = 0; short = 0; over = 0 }

pub loop-cover-preserved : goal.loop-cover-preserved
loop-cover-preserved c =
    one_more (λ (x : Cover). decimal (part_of c.args.part x)) c.args.covers.now c.loop-cover.cover-index nothing c.args.out.now c.loop-cover.out c.field.new.out
    c.loop-cover-test.true c.loop-cover.invariant (rw c.part_of.ensures at c.in_ok-field.ensures)
