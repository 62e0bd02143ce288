use Rattle.std.proofs.Common.{sym, ◌∙◌}
use Rattle.plan_cells.proofs.SignLemmas.{all_stand, no_utf8, one_falls}
use Rattle.plan_cells.proofs.signs.sign_fault.Goals as goal

pub returns-in-Ok : goal.returns-in-Ok
returns-in-Ok c = all_stand _ _ c.in-Ok.ensures.cases.0 c.in-Ok.ensures.cases.1 (sym c.may_all_stand.ensures ∙ c.if-may_all_stand.true)

pub returns-in-Ok-2 : goal.returns-in-Ok-2
returns-in-Ok-2 c = one_falls _ _ c.in-Ok.ensures.cases.0 c.in-Ok.ensures.cases.1 (sym c.may_all_stand.ensures ∙ c.if-may_all_stand.false)

pub returns-in-Err : goal.returns-in-Err
returns-in-Err c = no_utf8 _ c.in-Err.ensures.cases.0
