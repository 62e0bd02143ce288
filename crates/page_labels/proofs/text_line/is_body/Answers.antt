use Rattle.page_labels.proofs.Utf8Lemmas.{body_of, no_body}
use Rattle.page_labels.proofs.text_line.is_body.Goals as goal

pub returns-in-Ok : goal.returns-in-Ok
returns-in-Ok c = body_of _ _ _ c.in-Ok.ensures.cases.0 c.in-Ok.ensures.cases.1 c.may_all_stand.ensures

pub returns-in-Err : goal.returns-in-Err
returns-in-Err c = no_body _ c.in-Err.ensures.cases.0
