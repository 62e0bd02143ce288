use Rattle.std.proofs.Common.{◌≡◌, ◌++◌, drop}
use Rattle.page_csv.specs.roster_calendar.Folds.{folded, folded_from}
use Rattle.page_csv.proofs.roster_calendar.fold.put_folded.Given as goal

abbrev pub invariant-loop-byte : goal.invariant-loop-byte
invariant-loop-byte l = l.fn.out ++ folded l.line ≡ l.out ++ folded_from l.room (drop l.byte-index l.line)
