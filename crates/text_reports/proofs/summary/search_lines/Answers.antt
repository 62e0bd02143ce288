use Rattle.std.proofs.lemmas.Result.{on_ok_weaker}
use Rattle.std.specs.Prelude.{codes}
use Rattle.text_certificates.specs.Written.{amount_words}
use Rattle.text_reports.specs.ReportText.{result_line, number_line}
use Rattle.text_reports.proofs.Lines.{five_lines}
use Rattle.text_reports.proofs.summary.search_lines.Goals as goal

pub returns : goal.returns
returns c =
    let s = c.args.summary.now in
    on_ok_weaker c.number_line-2.result (λ e. five_lines c.args.out.now _ _ _ _ _ (result_line s.done) (amount_words (codes "cost") s.cost) (amount_words (codes "bound") s.bound) (number_line (codes "processed") s.processed) (number_line (codes "failed") s.failed)
    c.in_ok-result_line.ensures c.in_ok-amount_line.ensures c.in_ok-amount_line-2.ensures c.in_ok-number_line.ensures e) c.number_line-2.ensures
