use Rattle.text_lines.proofs.WrittenLemmas.{text_joined}
use Rattle.text_reports.specs.ReportText.{head_lines, cost_lines}
use Rattle.text_reports.proofs.write.write_report.Goals as goal

pub returns : goal.returns
returns c =
    let i = c.args.instance.now in
    let r = c.args.report.now in
    text_joined c.new-out.result c.head_lines.new.out c.cost_lines.new.out (head_lines i.groups r) (cost_lines i r r.cost) c.new-out.ensures (rw c.as_slice.ensures at c.in_ok-head_lines.ensures) c.in_ok-cost_lines.ensures
