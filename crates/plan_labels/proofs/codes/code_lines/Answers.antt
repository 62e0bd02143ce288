use Rattle.std.proofs.lemmas.Result.{on_ok_weaker}
use Rattle.std.proofs.Common.{[], ◌∷◌}
use Rattle.plan_labels.specs.LabelText.{all_pause_lines, all_work_lines, off_line}
use Rattle.plan_labels.proofs.LabelLemmas.{three_then}
use Rattle.plan_labels.proofs.codes.code_lines.Goals as goal

pub returns : goal.returns
returns c =
    let cs = c.args.plan.now.codes in
    on_ok_weaker c.two_words.result (λ e. three_then c.args.out.now c.work_lines.new.out c.pause_lines.new.out c.two_words.new.out (all_work_lines cs) (all_pause_lines cs) (off_line ∷ [])
    (rw c.as_slice.ensures at c.in_ok-work_lines.ensures) (rw c.as_slice-2.ensures at c.in_ok-pause_lines.ensures) e) c.two_words.ensures
