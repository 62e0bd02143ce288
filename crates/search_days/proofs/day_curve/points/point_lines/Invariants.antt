use Rattle.std.specs.Option.{option_copied}
use Rattle.std.proofs.Common.{◌≡◌, ◌++◌, map, take}
use Rattle.text_lines.specs.Written.{written}
use Rattle.search_days.specs.day_curve.CurveText.{point_words}
use Rattle.search_days.proofs.day_curve.points.point_lines.Given as goal

abbrev pub invariant-loop-point : goal.invariant-loop-point
invariant-loop-point l = l.out ≡ l.fn.out ++ written (map (point_words (option_copied l.group)) (take l.point-index l.points))
