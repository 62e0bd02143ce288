use Rattle.page_views.proofs.Columns.{day_columns}
use Rattle.page_views.proofs.PricedRows.{priced_rows}
use Rattle.page_views.proofs.RowLemmas.{short_words}
use Rattle.page_views.proofs.draw.content_beside.Goals as goal

pub rows_of-requires-clause-short : goal.rows_of-requires-clause-short
rows_of-requires-clause-short c = rw c.as_slice.ensures (short_words c.args.instance.now c.args.roster.now.shifts c.requires.roster.shifts.each)

pub derivations-requires : goal.derivations-requires
derivations-requires c =
    rw (c.as_slice-2.ensures, c.in_ok-rows.ensures.rows, c.as_slice.ensures) (priced_rows c.args.instance.now c.args.labels.now c.args.comparison.now c.args.roster.now c.requires.sound c.requires.roster)

pub returns-clause-columns : goal.returns-clause-columns
returns-clause-columns c = rw c.in_ok-columns.ensures (day_columns c.args.instance.now c.args.roster.now c.requires.sound c.requires.roster.shifts)

pub tables_of-requires-clause-short : goal.tables_of-requires-clause-short
tables_of-requires-clause-short c = rw c.as_slice-shifts.ensures (short_words c.args.instance.now c.args.roster.now.shifts c.requires.roster.shifts.each)

pub tables_of-requires-clause-columns : goal.tables_of-requires-clause-columns
tables_of-requires-clause-columns c = rw (c.as_slice-3.ensures, c.in_ok-columns.ensures) (day_columns c.args.instance.now c.args.roster.now c.requires.sound c.requires.roster.shifts)
