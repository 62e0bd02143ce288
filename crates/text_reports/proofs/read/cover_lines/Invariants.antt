use Rattle.std.proofs.Common.{◌-◌, ◌/◌, length}
use Rattle.text_reports.specs.ReportReading.{covers_reading}
use Rattle.text_reports.proofs.ReadLoops.{CoversDue}
use Rattle.text_reports.proofs.read.cover_lines.Given as goal

abbrev pub invariant-loop-place : goal.invariant-loop-place
invariant-loop-place l = CoversDue l.instance (covers_reading l.instance l.fn.out 0 (length l.instance.cells / l.instance.grammar.periods) l.fn.lines) l.out l.place l.lines

abbrev pub decreases-loop-place : goal.decreases-loop-place
decreases-loop-place l = length l.instance.cells - l.place
