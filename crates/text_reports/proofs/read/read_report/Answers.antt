use Rattle.text_reports.proofs.ReadTexts.{taken, given_again, told}
use Rattle.text_reports.proofs.read.read_report.Goals as goal

pub returns-clause-accepted : goal.returns-clause-accepted
returns-clause-accepted c = taken c.args.instance.now c.args.text.now c.report_lines.result c.requires.sound (rw c.new-lines.ensures at c.report_lines.ensures)

pub returns-clause-given : goal.returns-clause-given
returns-clause-given c = λ r h. given_again c.args.instance.now c.args.text.now c.report_lines.result r c.requires.sound (rw c.new-lines.ensures at c.report_lines.ensures) h

pub returns-clause-refused : goal.returns-clause-refused
returns-clause-refused c = told c.args.instance.now c.args.text.now c.report_lines.result c.requires.sound (rw c.new-lines.ensures at c.report_lines.ensures)
