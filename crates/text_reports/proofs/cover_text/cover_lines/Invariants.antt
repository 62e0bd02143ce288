use Rattle.std.proofs.Common.{◌≡◌, ◌/◌, ◌++◌, ◌+◌, length}
use Rattle.text_lines.specs.Written.{written}
use Rattle.text_reports.specs.ReportText.{cover_lines}
use Rattle.text_reports.proofs.Lines.{CoversLeft}
use Rattle.text_reports.proofs.cover_text.cover_lines.Given as goal

abbrev pub invariant-loop-rest : goal.invariant-loop-rest
invariant-loop-rest l = record {
  left : CoversLeft l.instance l.place l.rest l.out (l.fn.out ++ written (cover_lines l.instance 0 (length l.covers / l.instance.grammar.periods) l.covers));
  passed : l.place + length l.rest ≡ length l.covers;
}

abbrev pub decreases-loop-rest : goal.decreases-loop-rest
decreases-loop-rest l = length l.rest
