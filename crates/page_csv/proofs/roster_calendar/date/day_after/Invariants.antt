use Rattle.std.proofs.Common.{◌≡◌}
use Rattle.page_csv.specs.roster_calendar.Dates.{day_after}
use Rattle.page_csv.proofs.roster_calendar.date.day_after.Given as goal

abbrev pub invariant-loop : goal.invariant-loop
invariant-loop l = l.day ≡ day_after l.counter l.fn.date
