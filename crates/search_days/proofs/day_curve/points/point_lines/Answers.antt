use Rattle.std.specs.Option.{option_copied}
use Rattle.text_lines.proofs.WrittenLemmas.{line_more}
use Rattle.search_days.specs.day_curve.CurveText.{point_words}
use Rattle.search_days.proofs.day_curve.points.point_lines.Goals as goal

pub loop-point-preserved : goal.loop-point-preserved
loop-point-preserved c =
    line_more (point_words (option_copied c.args.group)) c.args.points.now c.loop-point.point-index _ c.args.out.now c.loop-point.out c.point_line.new.out c.loop-point-test.true c.loop-point.invariant c.in_ok-point_line.ensures
