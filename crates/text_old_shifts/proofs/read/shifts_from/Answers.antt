use Rattle.std.proofs.Common.{◌∙◌, sym}
use Rattle.text_old_shifts.proofs.SoundReadings.{line_few, next_line}
use Rattle.text_old_shifts.proofs.read.shifts_from.Goals as goal

pub loop-item-preserved : goal.loop-item-preserved
loop-item-preserved c = record {
  value =
      c.loop-item.invariant.value
      ∙ next_line c.args.instance.now c.args.header c.loop-item.said c.line.new.said c.loop-item.lines c.next.new.self
      c.in-Some.item c.in-Ok.next c.in-Some.ensures c.in-Ok.is (sym c.is_node.ensures ∙ c.if-is_node.false)
      c.in_ok-line.ensures;
  few =
      line_few c.in-Ok.next.number c.args.instance.now c.args.header c.loop-item.said c.line.new.said c.in-Ok.next.words
      c.loop-item.invariant.few c.in_ok-line.ensures;
}
