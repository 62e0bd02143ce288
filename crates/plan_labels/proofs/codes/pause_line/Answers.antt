use Rattle.std.proofs.lemmas.Result.{on_ok_weaker}
use Rattle.plan_labels.proofs.LabelLemmas.{pause_joined}
use Rattle.plan_labels.proofs.codes.pause_line.Goals as goal

pub returns : goal.returns
returns c =
    on_ok_weaker c.paid_line.result (λ e. pause_joined c.args.code.now c.args.out.now c.code_line.new.out c.paid_line.new.out c.if-code.false c.in_ok-code_line.ensures e) c.paid_line.ensures
