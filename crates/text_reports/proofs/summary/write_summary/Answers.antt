use Rattle.text_lines.proofs.WrittenLemmas.{text_joined}
use Rattle.text_reports.specs.SummaryText.{day_lines, search_lines}
use Rattle.text_reports.proofs.summary.write_summary.Goals as goal

pub returns : goal.returns
returns c =
    let s = c.args.summary.now in
    text_joined c.new-out.result c.day_lines.new.out c.search_lines.new.out (day_lines s) (search_lines s) c.new-out.ensures c.in_ok-day_lines.ensures c.in_ok-search_lines.ensures
