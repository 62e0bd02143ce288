use Rattle.std.proofs.lemmas.Result.{on_ok_weaker}
use Rattle.std.specs.Prelude.{codes}
use Rattle.text_reports.specs.ReportText.{number_line}
use Rattle.text_reports.proofs.Lines.{three_lines}
use Rattle.text_reports.proofs.summary.day_lines.Goals as goal

pub returns : goal.returns
returns c =
    let s = c.args.summary.now in
    on_ok_weaker c.number_line-3.result (λ e. three_lines c.args.out.now _ _ _ (number_line (codes "make") s.number) (number_line (codes "periods") s.periods) (number_line (codes "arcs") s.arcs)
    c.in_ok-number_line.ensures c.in_ok-number_line-2.ensures e) c.number_line-3.ensures
