use Rattle.std.proofs.Common.{◌∙◌}
use Rattle.check_parts.proofs.roster_part.ShiftCounts.{members-are}
use Rattle.check_values.proofs.remaining_day.counts.kept_of.Goals as goal

pub returns-clause-value : goal.returns-clause-value
returns-clause-value c = c.members.ensures ∙ members-are c.args.number c.args.shifts.now
