use Rattle.std.proofs.Common.{◌≡◌, ◌++◌, take}
use Rattle.std.specs.List.{flat_map}
use Rattle.page_csv.specs.roster_calendar.Events.{event_of}
use Rattle.page_csv.proofs.roster_calendar.event.add_shift.Given as goal

abbrev pub invariant-loop-stretch : goal.invariant-loop-stretch
invariant-loop-stretch l =
    l.lines ≡ l.fn.lines ++ flat_map (event_of l.instance l.labels l.setting l.placed.before.now l.placed.shift.now) (take l.stretch-index l.stretch-items)
