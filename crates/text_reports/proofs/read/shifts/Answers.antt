use Rattle.std.proofs.Common.{◌≡◌, ◌+◌, ◌-◌, [], ◌∷◌, ◌++◌, ◌∙◌, arith}
use Rattle.text_reports.proofs.ReadLoops.{shift_read}
use Rattle.text_reports.proofs.read.shifts.Goals as goal

pub loop-preserved : goal.loop-preserved
loop-preserved c =
    let grown : c.push.new.self ≡ c.loop.out ++ c.in_ok-shift.shift ∷ [] = c.in_ok-push.ensures.ok in
    rw grown (c.loop.invariant ∙ shift_read c.args.instance.now c.loop.out (c.args.count - c.loop.counter) (c.args.count - (c.loop.counter + 1)) c.loop.lines c.in_ok-shift.shift c.shift_line.new.lines (omega arith) c.in_ok-shift.ensures)
