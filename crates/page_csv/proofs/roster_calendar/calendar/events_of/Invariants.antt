use Rattle.std.proofs.Common.{◌≡◌, ◌++◌, drop}
use Rattle.page_csv.specs.roster_calendar.Events.{events_from}
use Rattle.page_csv.proofs.roster_calendar.calendar.events_of.Given as goal

abbrev pub invariant-loop-shift : goal.invariant-loop-shift
invariant-loop-shift l = record {
  events : events_from l.instance l.labels l.setting l.only l.shifts 0 l.shifts
      ≡ l.lines ++ events_from l.instance l.labels l.setting l.only l.shifts l.place (drop l.shift-index l.shifts);
  place : l.place ≡ l.shift-index;
}
