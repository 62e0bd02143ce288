use Rattle.text_reports.proofs.ReadTexts.{text_of_report}
use Rattle.text_reports.proofs.laws.read_again.Goals as goal

pub returns : goal.returns
returns c = text_of_report
