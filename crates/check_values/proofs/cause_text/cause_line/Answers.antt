use Rattle.check_values.proofs.cause_text.cause_line.Goals as goal

pub returns-in-BelowFloor : goal.returns-in-BelowFloor
returns-in-BelowFloor c = rw c.in-BelowFloor.is c.limit.ensures
