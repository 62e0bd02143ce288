use Rattle.std.proofs.Common.{◌≡◌, ◌-◌}
use Rattle.text_reports.specs.ReportReading.{shifts_reading}
use Rattle.text_reports.proofs.read.shifts.Given as goal

abbrev pub invariant-loop : goal.invariant-loop
invariant-loop l = shifts_reading l.instance l.fn.out l.count l.fn.lines ≡ shifts_reading l.instance l.out (l.count - l.counter) l.lines
