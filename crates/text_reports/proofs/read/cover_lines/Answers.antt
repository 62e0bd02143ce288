use Rattle.std.proofs.Common.{◌<◌, length, arith}
use Rattle.std.proofs.lemmas.Result.{err_from_is_err_and}
use Rattle.text_reports.proofs.ReadLoops.{covers_due, code_read, code_refused}
use Rattle.text_reports.proofs.read.cover_lines.Goals as goal

pub loop-place-init : goal.loop-place-init
loop-place-init c = covers_due c.args.instance.now c.args.out.now c.args.lines.now c.requires

pub returns-in_err-code_lines : goal.returns-in_err-code_lines
returns-in_err-code_lines c =
    let lt : c.loop-place.place < length c.args.instance.now.cells = omega (arith, c.len.ensures) in
    let p = err_from_is_err_and c.from_residual.result c.from_residual.ensures.1 in
    rw (p.1, p.2) (λ ne. code_refused c.args.instance.now _ c.loop-place.out c.loop-place.place c.loop-place.lines _ lt (rw c.due_byte.ensures at (c.in_err-code_lines.ensures ne)) c.loop-place.invariant)

pub loop-place-preserved : goal.loop-place-preserved
loop-place-preserved c =
    let lt : c.loop-place.place < length c.args.instance.now.cells = omega (arith, c.len.ensures) in
    code_read c.args.instance.now _ c.loop-place.out c.code_lines.new.out c.loop-place.place c.loop-place.lines c.code_lines.new.lines lt (rw c.due_byte.ensures at c.in_ok-code_lines.ensures) c.loop-place.invariant
