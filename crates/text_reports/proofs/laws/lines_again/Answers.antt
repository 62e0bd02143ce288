use Rattle.text_reports.proofs.FineLines.{report_again}
use Rattle.text_reports.proofs.laws.lines_again.Goals as goal

pub returns : goal.returns
returns c = report_again
