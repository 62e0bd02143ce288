use Rattle.page_command.proofs.OldLemmas.{report-long, report-renamed}
use Rattle.page_command.proofs.old_fault.report_line.Goals as goal

pub renamed-requires : goal.renamed-requires
renamed-requires c = rw (c.as_slice.ensures, c.in_ok-line.ensures) (report-long c.args.fault.now)

pub returns : goal.returns
returns c = rw (c.as_slice.ensures, c.in_ok-line.ensures, report-renamed c.args.fault.now) at c.renamed.ensures
