use Rattle.std.proofs.Common.{◌∙◌}
use Rattle.page_command.proofs.Checks.{labels-line}
use Rattle.page_command.proofs.refused.refused_labels.Goals as goal

pub returns-in_ok-line-in_default : goal.returns-in_ok-line-in_default
returns-in_ok-line-in_default c =
    labels-line c.args.labels.now c.args.instance.now c.args.text.now _ c.line_answer.result
    (record { fault = c.args.fault; reading = c.requires.fault c.in_default.not-Memory; line = c.as_slice.ensures ∙ c.in_ok-line-in_default.ensures }) c.line_answer.ensures
