use Rattle.std.proofs.lemmas.Result.{on_ok_weaker}
use Rattle.std.proofs.Common.{[], ◌∷◌}
use Rattle.text_lines.proofs.WrittenLemmas.{line_joined}
use Rattle.text_reports.specs.ReportText.{part_name, parts_of}
use Rattle.text_reports.proofs.cover_text.part_line.Goals as goal

pub returns : goal.returns
returns c =
    on_ok_weaker c.push.result (λ e. line_joined c.args.out.now _ _ _ c.push.new.self (part_name c.args.part) ((c.args.code ∷ []) ∷ []) (parts_of c.args.part c.args.covers.now)
    (rw c.part_name.ensures at c.in_ok-put.ensures.ok) c.in_ok-word.ensures c.in_ok-numbers.ensures e) c.push.ensures.ok
