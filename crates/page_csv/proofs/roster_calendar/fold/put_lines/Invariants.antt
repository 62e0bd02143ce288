use Rattle.std.proofs.Common.{◌≡◌, ◌++◌, take}
use Rattle.std.specs.List.{flat_map}
use Rattle.page_csv.specs.roster_calendar.Folds.{line_text}
use Rattle.page_csv.proofs.roster_calendar.fold.put_lines.Given as goal

abbrev pub invariant-loop-line : goal.invariant-loop-line
invariant-loop-line l = l.out ≡ l.fn.out ++ flat_map line_text (take l.line-index l.lines)
