use Rattle.command_searches.proofs.solve.report_answer.Goals as goal

pub solution_report-requires-clause-cert : goal.solution_report-requires-clause-cert
solution_report-requires-clause-cert c = c.requires.found.2.sound

pub solution_report-requires-clause-stated : goal.solution_report-requires-clause-stated
solution_report-requires-clause-stated c = c.requires.found.2.accepted.roster
