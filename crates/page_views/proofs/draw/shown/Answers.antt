use Rattle.page_views.proofs.RowLemmas.{short_words}
use Rattle.page_views.proofs.draw.shown.Goals as goal

pub table_of-requires-clause-short : goal.table_of-requires-clause-short
table_of-requires-clause-short c = rw c.as_slice.ensures (short_words c.args.instance.now c.args.roster.now.shifts c.requires.roster.shifts.each)

pub calendar_of-requires-clause-short : goal.calendar_of-requires-clause-short
calendar_of-requires-clause-short c = rw c.as_slice-shifts.ensures (short_words c.args.instance.now c.args.roster.now.shifts c.requires.roster.shifts.each)
