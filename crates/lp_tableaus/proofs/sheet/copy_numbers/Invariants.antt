use Rattle.lp_tableaus.specs.Sheet.{AreCopied}
use Rattle.lp_tableaus.proofs.sheet.copy_numbers.Given as goal

abbrev pub invariant-loop-i : goal.invariant-loop-i
invariant-loop-i l = AreCopied l.i l.numbers l.row
