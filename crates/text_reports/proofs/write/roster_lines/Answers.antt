use Rattle.std.proofs.lemmas.Result.{on_ok_weaker}
use Rattle.std.proofs.Common.{◌/◌, length, map}
use Rattle.std.specs.Prelude.{codes}
use Rattle.text_certificates.specs.Written.{shift_line}
use Rattle.text_reports.specs.ReportText.{number_line, cover_lines}
use Rattle.text_reports.proofs.Lines.{roster_joined}
use Rattle.text_reports.proofs.write.roster_lines.Goals as goal

pub cover_lines-requires-clause-whole : goal.cover_lines-requires-clause-whole
cover_lines-requires-clause-whole c = rw c.as_slice-2.ensures c.requires.whole

pub returns : goal.returns
returns c =
    let i = c.args.instance.now in
    let r = c.args.report.now in
    on_ok_weaker c.cover_lines.result (λ e. roster_joined c.args.out.now _ _ _ _ _ (number_line (codes "shifts") (length r.shifts)) (number_line (codes "paid") r.paid) (number_line (codes "penalty") r.penalty) (map (shift_line i) r.shifts) (cover_lines i 0 (length r.cover / i.grammar.periods) r.cover)
    (rw c.len.ensures at c.in_ok-number_line.ensures) (rw c.as_slice.ensures at c.in_ok-shift_lines.ensures) c.in_ok-number_line-2.ensures c.in_ok-number_line-3.ensures (rw c.as_slice-2.ensures at e)) c.cover_lines.ensures
