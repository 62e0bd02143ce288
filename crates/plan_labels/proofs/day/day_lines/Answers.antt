use Rattle.std.proofs.lemmas.Result.{on_ok_weaker}
use Rattle.std.proofs.Common.{[], ◌∷◌}
use Rattle.text_lines.proofs.WrittenLemmas.{lines_then}
use Rattle.plan_labels.specs.LabelText.{clock_line, title_lines}
use Rattle.plan_labels.proofs.day.day_lines.Goals as goal

pub returns : goal.returns
returns c =
    let p = c.args.plan.now in
    on_ok_weaker c.clock_line.result (λ e. lines_then c.args.out.now c.title_line.new.out c.clock_line.new.out (title_lines p.title) (clock_line p.day ∷ [])
    (rw c.as_slice.ensures at c.in_ok-title_line.ensures) e) c.clock_line.ensures
