use Rattle.std.proofs.lemmas.Result.{on_ok_weaker}
use Rattle.text_reports.specs.declared.part.Part.TheVariants.{Need, Have, Short, Over}
use Rattle.text_reports.specs.ReportText.{part_line}
use Rattle.text_reports.proofs.Lines.{four_lines}
use Rattle.text_reports.proofs.cover_text.code_lines.Goals as goal

pub returns : goal.returns
returns c =
    let a = c.args in
    on_ok_weaker c.part_line-4.result (λ e. four_lines a.out.now _ _ _ _ (part_line Need a.code a.covers.now) (part_line Have a.code a.covers.now) (part_line Short a.code a.covers.now) (part_line Over a.code a.covers.now)
    c.in_ok-part_line.ensures c.in_ok-part_line-2.ensures c.in_ok-part_line-3.ensures e) c.part_line-4.ensures
