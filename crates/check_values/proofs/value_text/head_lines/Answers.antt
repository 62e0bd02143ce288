use Rattle.std.specs.Prelude.{codes}
use Rattle.std.proofs.lemmas.Result.{on_ok_weaker}
use Rattle.text_reports.specs.ReportText.{header_line, number_line}
use Rattle.text_reports.proofs.Lines.{three_lines}
use Rattle.check_values.specs.ValueText.{stated_line}
use Rattle.check_values.proofs.value_text.head_lines.Goals as goal

pub returns : goal.returns
returns c =
    let i = c.args.instance.now in
    on_ok_weaker c.number_line.result (λ e. three_lines c.args.out.now _ _ _ (header_line i.groups) stated_line (number_line (codes "cost") c.args.value.now.cost)
    (rw c.as_slice.ensures at c.in_ok-header_line.ensures) c.in_ok-stated_line.ensures e) c.number_line.ensures
