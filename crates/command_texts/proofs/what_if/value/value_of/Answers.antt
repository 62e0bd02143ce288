use Rattle.command_texts.proofs.what_if.value.value_of.Goals as goal

pub stated_answer-requires-clause-shifts : goal.stated_answer-requires-clause-shifts
stated_answer-requires-clause-shifts c = record { few = c.requires.shifts.few; each = c.requires.shifts.each }
