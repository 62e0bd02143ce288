use Rattle.std.proofs.Common.{◌≡◌, ◌++◌, take}
use Rattle.text_lines.specs.Written.{tail}
use Rattle.text_reports.specs.ReportText.{parts_of}
use Rattle.text_reports.proofs.part.numbers.Given as goal

abbrev pub invariant-loop-cover : goal.invariant-loop-cover
invariant-loop-cover l = l.out ≡ l.fn.out ++ tail (parts_of l.part (take l.cover-index l.covers))
