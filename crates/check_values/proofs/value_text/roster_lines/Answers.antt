use Rattle.std.proofs.Common.{length, map}
use Rattle.std.specs.Prelude.{codes}
use Rattle.std.proofs.lemmas.Result.{on_ok_weaker}
use Rattle.text_certificates.specs.Written.{shift_line}
use Rattle.text_reports.specs.ReportText.{number_line}
use Rattle.text_reports.proofs.Lines.{roster_joined}
use Rattle.check_values.specs.ValueText.{covered_lines}
use Rattle.check_values.proofs.value_text.roster_lines.Goals as goal

pub returns : goal.returns
returns c =
    let i = c.args.instance.now in
    let v = c.args.value.now in
    on_ok_weaker c.covered_lines.result (λ e. roster_joined c.args.out.now _ _ _ _ _ (number_line (codes "shifts") (length v.shifts)) (number_line (codes "paid") v.paid) (number_line (codes "penalty") v.penalty) (map (shift_line i) v.shifts) (covered_lines i v.shifts)
    (rw c.as_slice-shifts.ensures at c.in_ok-number_line.ensures) (rw c.as_slice-shifts.ensures at c.in_ok-shift_lines.ensures) c.in_ok-number_line-2.ensures c.in_ok-number_line-3.ensures (rw c.as_slice-shifts.ensures at e)) c.covered_lines.ensures
