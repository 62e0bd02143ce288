use Rattle.std.proofs.lemmas.Result.{on_ok_weaker}
use Rattle.std.specs.Prelude.{codes}
use Rattle.text_certificates.specs.Written.{amount_words}
use Rattle.text_reports.specs.ReportText.{header_line, result_line, number_line}
use Rattle.text_reports.proofs.Lines.{six_lines}
use Rattle.text_reports.proofs.write.head_lines.Goals as goal

pub returns : goal.returns
returns c =
    let r = c.args.report.now in
    on_ok_weaker c.number_line-2.result (λ e. six_lines c.args.out.now _ _ _ _ _ _ (header_line c.args.groups.now) (result_line r.done) (amount_words (codes "cost") r.cost) (amount_words (codes "bound") r.bound) (number_line (codes "processed") r.processed) (number_line (codes "failed") r.failed)
    c.in_ok-header_line.ensures c.in_ok-result_line.ensures c.in_ok-amount_line.ensures c.in_ok-amount_line-2.ensures c.in_ok-number_line.ensures e) c.number_line-2.ensures
