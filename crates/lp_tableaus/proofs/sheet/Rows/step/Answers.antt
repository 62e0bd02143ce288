use Rattle.std.proofs.Common.{◌∙◌}
use Rattle.lp_tableaus.proofs.sheet.Rows.step.Goals as goal

pub returns-clause-wide : goal.returns-clause-wide
returns-clause-wide c = rw (c.deref_mut.ensures.value ∙ c.self.view_is) at c.step_rows.ensures.wide
