use Rattle.std.proofs.Common.{◌≡◌, ◌++◌, length}
use Rattle.text_reports.specs.LineWords.{covers_of}
use Rattle.text_reports.proofs.read.covers.Given as goal

abbrev pub invariant-loop-cover : goal.invariant-loop-cover
invariant-loop-cover l = l.fn.out ++ covers_of l.fn.needs l.fn.haves l.fn.shorts l.fn.overs ≡ l.out ++ covers_of l.needs l.haves l.shorts l.overs

abbrev pub decreases-loop-cover : goal.decreases-loop-cover
decreases-loop-cover l = length l.needs
