use Rattle.command_texts.proofs.what_if.rest.rest_of.Goals as goal

pub remaining-requires-clause-few : goal.remaining-requires-clause-few
remaining-requires-clause-few c = c.requires.shifts.few

pub remaining-requires-clause-shifts : goal.remaining-requires-clause-shifts
remaining-requires-clause-shifts c = c.requires.shifts.each
